pub mod Join
pub mod Rope
