pub mod Header
pub mod Form
pub mod Pixmap
pub mod Worked
