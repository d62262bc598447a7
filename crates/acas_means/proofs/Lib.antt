pub mod ChoiceLists
pub mod ColumnLaws
pub mod NumberedStates
pub mod Written
pub mod TableMeans
pub mod PlacedMeans
pub mod ColumnPlaces
