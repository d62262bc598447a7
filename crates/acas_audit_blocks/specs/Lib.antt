pub mod Audits
pub mod BlockStates
pub mod Decisions
