pub mod TrajectorySums
pub mod WeightLaws
pub mod RecursionLaws
pub mod BestLaws
pub mod ContactLaws
