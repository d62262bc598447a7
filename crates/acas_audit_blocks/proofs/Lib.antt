pub mod Decided
pub mod Halves
pub mod Filled
pub mod Blocks
pub mod Counted
pub mod Ruled
pub mod Rows
pub mod Moved
