pub mod Numbers
pub mod Load
pub mod Laws
pub mod Room
pub mod Mark
pub mod Summary
