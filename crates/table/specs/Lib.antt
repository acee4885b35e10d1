pub mod Answers
pub mod Bytes
pub mod Calls
pub mod Layout
pub mod Logs
pub mod Meaning
pub mod Refusals
pub mod WorkedBytes
