pub mod Splice
pub mod Code
pub mod Compiled
pub mod Law
pub mod Worked
