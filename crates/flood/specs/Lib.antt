pub mod FillLaws
pub mod Filling
pub mod Region
pub mod Spans
