pub mod Finding
pub mod Meetings
