pub mod Borders
pub mod Going
pub mod WorkedRow
pub mod Beginning
