pub mod Commands
pub mod CornerLaws
pub mod ShareLaws
pub mod Weights
pub mod SumSteps
pub mod Quotients
pub mod SigmaSteps
pub mod CellColumns
