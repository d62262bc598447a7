pub mod Sets
pub mod Blocks
pub mod DecisionCounts
pub mod Order
pub mod Corners
pub mod Cells
