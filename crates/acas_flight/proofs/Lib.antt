pub mod Curves
pub mod Steps
pub mod Between
pub mod Holding
pub mod Responses
pub mod Numbers
pub mod Gapless
