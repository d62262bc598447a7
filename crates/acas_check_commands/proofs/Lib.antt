pub mod MigratedTables
pub mod Worth
