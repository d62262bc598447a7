pub mod Forms
pub mod Migrated
pub mod Ends
pub mod Refusals
pub mod Outcomes
pub mod Worked
