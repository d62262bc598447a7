pub mod Meetings
pub mod Dangers
pub mod Extremes
