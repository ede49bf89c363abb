pub mod Bytes
pub mod Plain
pub mod Names
pub mod Words
pub mod Statements
pub mod Places
