pub mod Tree
pub mod Body
pub mod View
pub mod Stretches
