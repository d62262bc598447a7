mod SameText
pub mod Files
pub mod Worth
