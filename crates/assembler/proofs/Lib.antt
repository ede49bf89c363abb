pub mod Readers
pub mod NumberLemmas
pub mod ItemLemmas
pub mod PairLemmas
pub mod AnswerLemmas
pub mod Listed
pub mod Steps
