pub mod LineLemmas
pub mod NameLemmas
pub mod Steps
pub mod WordLemmas
