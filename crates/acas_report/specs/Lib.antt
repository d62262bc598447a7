pub mod Ready
pub mod Verdicts
