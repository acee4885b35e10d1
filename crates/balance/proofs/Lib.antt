pub mod CallLaws
pub mod Tallies
pub mod Weighing
