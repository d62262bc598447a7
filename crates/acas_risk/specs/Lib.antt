pub mod Plans
pub mod Counts
pub mod Layers
pub mod Pairs
pub mod RiskText
pub mod Rows
pub mod Steps
