pub mod OtherWords
pub mod KnownForms
