pub mod Told
pub mod Holds
