pub mod Counts
pub mod Fills
pub mod Parts
pub mod Regions
pub mod Rows
