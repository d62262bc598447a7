mod Tables
pub mod Worth
