pub mod FoundPlans
