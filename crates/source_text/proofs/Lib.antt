pub mod CommandLemmas
pub mod FormLemmas
pub mod NoCodeLemmas
pub mod PartLemmas
pub mod MeasureLemmas
pub mod PieceLemmas
pub mod SequenceLemmas
pub mod SourceLemmas
pub mod SumLemmas
pub mod TakingLemmas
pub mod UseLemmas
mod Worked
pub mod BuildingLemmas
pub mod DefinitionLemmas
