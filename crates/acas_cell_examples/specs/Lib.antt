pub mod Tabled
pub mod Encounters
pub mod Witnesses
pub mod ClearCells
pub mod Reports
pub mod Hunted
