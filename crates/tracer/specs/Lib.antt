pub mod Lines
pub mod Traced
