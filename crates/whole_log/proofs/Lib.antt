pub mod CallLaws
pub mod Following
pub mod Meeting
