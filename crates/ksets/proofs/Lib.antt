pub mod Pascal
pub mod Ranked
pub mod Following
pub mod Order
pub mod Cases
pub mod Raising
