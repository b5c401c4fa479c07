pub mod Combination
pub mod Gathered
pub mod Passes
pub mod Strip
pub mod Added
