pub mod Contents
pub mod Lengths
pub mod Outside
pub mod Meaning
pub mod Keys
pub mod Room
