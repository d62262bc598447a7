pub mod Sizes
pub mod Second
pub mod Ends
pub mod Corners
