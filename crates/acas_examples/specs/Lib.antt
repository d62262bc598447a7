pub mod Grids
pub mod Parts
pub mod Models
pub mod Tables
pub mod Policies
