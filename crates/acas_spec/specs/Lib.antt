pub mod Steps
pub mod Axis
pub mod Model
pub mod Table
pub mod Limits
