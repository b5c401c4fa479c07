pub mod Steps
pub mod Elimination
pub mod Columns
pub mod Clearing
