pub mod Layer
pub mod Entries
pub mod Means
pub mod Choices
pub mod Values
pub mod Reach
pub mod Columns
