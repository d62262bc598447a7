pub mod ColumnBlends
pub mod Narrow
pub mod Raised
pub mod WideSums
