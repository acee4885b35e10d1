pub mod Blocks
pub mod CallLaws
pub mod Moves
pub mod Stages
pub mod Written
