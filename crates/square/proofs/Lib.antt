pub mod Steps
pub mod Pivots
pub mod Columns
pub mod Ends
