pub mod Contacts
pub mod Showing
