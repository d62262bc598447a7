pub mod UnitSums
pub mod SourceMeans
pub mod SharedMeans
pub mod ColumnPoints
