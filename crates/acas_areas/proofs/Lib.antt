pub mod Halvings
pub mod Finer
