mod RegionsFiles
pub mod RegionsWorth
pub mod ManoeuvreFiles
pub mod ManoeuvreWorth
