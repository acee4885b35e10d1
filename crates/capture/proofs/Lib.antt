pub mod CallLaws
pub mod Exported
pub mod Values
pub mod Words
