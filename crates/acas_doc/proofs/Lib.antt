pub mod Lists
pub mod KeyLoop
pub mod LeastUnknown
pub mod Holds
pub mod Documents
mod WholeItems
