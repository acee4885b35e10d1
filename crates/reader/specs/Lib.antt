pub mod Answers
pub mod Calls
pub mod Layout
pub mod Refusals
pub mod Steps
pub mod Traces
