pub mod WordBases
pub mod WordLemmas
