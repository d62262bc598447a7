pub mod Sound
pub mod First
pub mod Checks
pub mod Means
pub mod Planes
pub mod Leasts
