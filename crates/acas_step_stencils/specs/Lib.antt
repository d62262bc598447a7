pub mod Units
pub mod Heights
pub mod Cells
pub mod Stencils
