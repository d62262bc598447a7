pub mod Plans
pub mod Bends
