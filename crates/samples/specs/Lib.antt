pub mod Marked
pub mod Editions
