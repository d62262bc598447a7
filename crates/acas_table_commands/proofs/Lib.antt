pub mod Ended
mod Swept
pub mod Worth
