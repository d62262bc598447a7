pub mod LeastSoFar
pub mod BestEntries
mod CompiledLaws
pub mod Below
pub mod Over
pub mod Written
pub mod Counts
pub mod Filled
pub mod Handed
pub mod Placed
mod Turns
