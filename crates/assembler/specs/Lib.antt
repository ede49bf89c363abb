pub mod Pairs
pub mod Answers
pub mod Laws
pub mod Ahead
pub mod Lines
