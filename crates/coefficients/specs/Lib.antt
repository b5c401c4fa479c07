pub mod Weights
pub mod Data
