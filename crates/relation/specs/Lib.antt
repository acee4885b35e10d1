pub mod Digits
pub mod Relations
pub mod Rows
