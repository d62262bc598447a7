pub mod Written
pub mod Costs
pub mod Layers
pub mod Valued
pub mod Bounds
pub mod Texts
