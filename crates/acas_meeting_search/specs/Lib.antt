pub mod Turns
pub mod Stages
pub mod View
pub mod Courses
