pub mod RegionsCalls
pub mod RegionsWorth
pub mod ManoeuvreCalls
pub mod ManoeuvreWorth
