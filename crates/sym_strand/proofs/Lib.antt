pub mod Places
pub mod RunLemmas
pub mod Tidy
pub mod CellLemmas
pub mod SegmentLaws
