pub mod Bounds
pub mod Outsides
pub mod Texts
pub mod Tables
pub mod Documents
