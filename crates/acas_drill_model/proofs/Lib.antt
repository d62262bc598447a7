pub mod WithinLimits
pub mod Words
pub mod SteppedAxes
