pub mod Turns
pub mod Tests
pub mod SameTimes
