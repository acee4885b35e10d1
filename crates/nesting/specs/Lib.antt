pub mod Answers
pub mod Calls
pub mod Scratch
pub mod Steps
