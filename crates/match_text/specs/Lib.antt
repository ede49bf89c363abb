pub mod Way
pub mod Told
pub mod Laws
pub mod Groups
