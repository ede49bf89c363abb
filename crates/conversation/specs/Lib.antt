pub mod Cut
pub mod Answering
pub mod Talking
