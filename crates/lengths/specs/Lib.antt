pub mod Along
pub mod Limit
pub mod Steps
