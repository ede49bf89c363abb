pub mod Replacement
pub mod Weight
pub mod Costs
pub mod Cuts
pub mod Worked
