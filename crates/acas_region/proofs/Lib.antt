pub mod Clears
pub mod Signs
