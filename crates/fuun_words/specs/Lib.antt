pub mod Commands
pub mod Numbers
pub mod Requests
pub mod Verbs
pub mod Worked
