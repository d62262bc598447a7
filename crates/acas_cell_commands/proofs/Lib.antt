mod SafeableFiles
pub mod SafeableWorth
mod Decisions
mod AuditFiles
pub mod AuditWorth
