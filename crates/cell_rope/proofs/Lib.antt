pub mod Pieces
pub mod Kept
pub mod FrontLemmas
pub mod Along
pub mod CellsAt
