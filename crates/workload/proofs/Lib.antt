pub mod Drawing
pub mod Rows
pub mod Bounds
pub mod Lines
