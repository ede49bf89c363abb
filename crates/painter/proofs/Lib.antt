pub mod Drawings
pub mod Outcomes
pub mod Pictures
pub mod PixelChannels
