pub mod Lengths
pub mod Answers
pub mod Laws
pub mod Totals
pub mod Kept
