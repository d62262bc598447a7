pub mod LayerParts
pub mod ValuesText
pub mod LineRows
pub mod Heads
pub mod BegunWriter
pub mod TableRows
pub mod TableFile
pub mod StoredLine
