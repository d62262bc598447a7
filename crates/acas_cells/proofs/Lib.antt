pub mod Members
pub mod DecisionCounts
pub mod Lists
pub mod Exact
pub mod Order
