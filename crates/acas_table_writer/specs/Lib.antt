pub mod Pieces
pub mod Writer
