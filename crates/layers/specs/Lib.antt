pub mod Layers
pub mod Lending
pub mod Stack
