pub mod Searches
pub mod NumberLengths
