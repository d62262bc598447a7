pub mod Source
pub mod Standing
pub mod Reader
pub mod AtHand
