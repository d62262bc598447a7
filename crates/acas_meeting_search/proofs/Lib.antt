pub mod Values
pub mod Pursuits
pub mod Turns
pub mod Chains
