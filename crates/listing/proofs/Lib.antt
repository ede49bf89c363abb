pub mod ListLemmas
pub mod PutLemmas
pub mod TextLemmas
