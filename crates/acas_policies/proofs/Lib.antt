pub mod BoundLaws
pub mod CompiledBounds
pub mod PolicySizes
pub mod PolicyLaws
pub mod ChanceLaws
