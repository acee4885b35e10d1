pub mod DigitLists
pub mod Laying
pub mod Marks
pub mod Numbers
pub mod Rows
