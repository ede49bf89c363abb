pub mod Match
pub mod Groups
pub mod Found
pub mod Step
pub mod Laws
pub mod Worked
