pub mod TableLines
pub mod SweptLines
pub mod Heads
pub mod BegunWriters
pub mod SweptTable
pub mod StoredLayers
