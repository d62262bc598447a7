pub mod Sums
pub mod Axis
pub mod Step
pub mod Cost
pub mod Values
pub mod Compiled
