pub mod Axis
pub mod Grid
pub mod States
