pub mod AcceptedLine
pub mod Calls
pub mod Worth
