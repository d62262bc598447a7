pub mod Allowed
pub mod Sound
pub mod First
pub mod Faults
pub mod Planes
pub mod NoFault
pub mod SharedChoices
pub mod LeastValues
