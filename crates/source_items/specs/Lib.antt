pub mod Values
pub mod Lines
pub mod Held
pub mod Worked
