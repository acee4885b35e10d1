pub mod Listing
pub mod Steps
