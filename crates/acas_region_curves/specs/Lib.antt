pub mod Scaling
pub mod Ratios
pub mod Parts
