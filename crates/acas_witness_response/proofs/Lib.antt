pub mod Assembly
pub mod BoxRanges
pub mod CellRanges
pub mod LowestTerms
