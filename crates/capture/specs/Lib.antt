pub mod Calls
pub mod Numbers
pub mod State
pub mod Steps
