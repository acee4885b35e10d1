pub mod Accepting
pub mod ByLetter
pub mod Closing
