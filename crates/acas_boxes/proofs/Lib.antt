pub mod Read
pub mod Pass
pub mod Faults
pub mod Fitting
pub mod Ways
