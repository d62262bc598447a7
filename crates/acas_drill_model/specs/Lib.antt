pub mod Word
pub mod DrilledModel
