pub mod Shape
pub mod Format
pub mod Text
pub mod Growth
pub mod Layers
pub mod Faults
pub mod Refusals
pub mod Tables
