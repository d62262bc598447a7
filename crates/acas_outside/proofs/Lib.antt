pub mod Inserted
mod StoredFiles
pub mod Appended
pub mod Grown
pub mod ReadSoFar
pub mod Once
pub mod PrintedPieces
pub mod Lengths
