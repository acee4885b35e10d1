pub mod Digits
pub mod OnesListed
pub mod Owned
pub mod Relations
pub mod RowsOf
pub mod Walks
