pub mod Runs
pub mod Drawing
pub mod Lengths
pub mod Law
