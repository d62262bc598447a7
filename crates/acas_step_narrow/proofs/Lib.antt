pub mod RaisedMeans
pub mod RaisedWritten
pub mod RaisedLaws
pub mod RaisedSums
pub mod ColumnSizes
pub mod CornerSums
mod RateSums
