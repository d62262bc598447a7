mod Digits
mod Fields
mod Lines
pub mod Printing
pub mod Completed
pub mod Behind
pub mod Files
pub mod Refused
pub mod Says
pub mod Reports
pub mod Inputs
