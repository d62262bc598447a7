pub mod View
pub mod Advices
pub mod Layers
