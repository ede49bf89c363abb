pub mod BucketLemmas
pub mod Decided
pub mod PixelLemmas
pub mod SpotLemmas
