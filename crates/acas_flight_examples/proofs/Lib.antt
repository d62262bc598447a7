pub mod UpToIt
pub mod Level
