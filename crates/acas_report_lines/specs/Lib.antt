pub mod CellReport
pub mod Blocks
pub mod Plans
pub mod Report
pub mod Regions
pub mod Meetings
pub mod Text
pub mod Plan
