pub mod SafeableCalls
pub mod SafeableWorth
pub mod AuditCalls
pub mod Decisions
pub mod AuditWorth
