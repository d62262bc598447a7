pub mod Decided
pub mod Nearest
pub mod Shown
pub mod ShownMeeting
pub mod Issued
pub mod Halves
