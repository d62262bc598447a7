pub mod Spans
pub mod OneBox
pub mod Whole
pub mod Text
pub mod Rates
