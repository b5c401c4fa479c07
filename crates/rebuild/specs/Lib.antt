pub mod Rows
pub mod Folded
pub mod Column
