pub mod Intruder
pub mod View
