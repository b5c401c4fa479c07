pub mod Lists
pub mod Lagrange
pub mod Factors
pub mod Combination
pub mod Data
