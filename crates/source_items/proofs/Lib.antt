pub mod HeldLemmas
pub mod Worked
