pub mod Cells
pub mod Segments
pub mod Runs
pub mod Kept
pub mod Laws
