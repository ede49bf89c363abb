pub mod Automaton
pub mod Sought
pub mod Table
pub mod Worked
pub mod Begins
