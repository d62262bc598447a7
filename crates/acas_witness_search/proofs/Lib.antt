pub mod Chains
pub mod Rises
pub mod Steps
