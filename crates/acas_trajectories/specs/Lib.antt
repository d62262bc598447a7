pub mod Memory
pub mod Trajectories
