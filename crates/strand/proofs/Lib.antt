pub mod Fronts
pub mod Levels
pub mod Ranges
pub mod Shifting
