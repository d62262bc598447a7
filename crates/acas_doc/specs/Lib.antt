pub mod Paths
pub mod Values
pub mod Keys
pub mod Known
pub mod Document
pub mod Answers
pub mod InputAnswers
pub mod Input
