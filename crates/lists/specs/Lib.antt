pub mod Listed
pub mod Put
pub mod Each
pub mod Positions
pub mod Parts
