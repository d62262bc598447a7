pub mod Numbers
pub mod Flown
pub mod Searched
