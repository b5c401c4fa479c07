pub mod Changed
pub mod Partners
pub mod Pairs
pub mod Coupled
pub mod Multiples
pub mod Determinants
