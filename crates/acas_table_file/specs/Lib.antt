pub mod Calls
pub mod AcceptedFile
pub mod Worth
