pub mod Overs
pub mod Lattices
pub mod Ways
pub mod Casts
pub mod Portions
pub mod Lines
