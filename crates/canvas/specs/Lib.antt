pub mod Buckets
pub mod Lending
pub mod Pixels
pub mod Tally
