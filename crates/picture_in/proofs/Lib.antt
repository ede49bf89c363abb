pub mod HeaderLemmas
pub mod FormLemmas
pub mod PixmapLemmas
