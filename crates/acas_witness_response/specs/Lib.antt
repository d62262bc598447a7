pub mod PrintedPlans
