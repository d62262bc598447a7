pub mod Documents
pub mod Boxes
pub mod Drilled
