pub mod Scaling
pub mod Sizes
pub mod Products
pub mod Climbs
