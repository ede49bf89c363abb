pub mod Items
pub mod PutLengths
pub mod Costs
