pub mod Bounds
pub mod Allowed
pub mod Policies
