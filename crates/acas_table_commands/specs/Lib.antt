pub mod Calls
pub mod Work
pub mod Worth
