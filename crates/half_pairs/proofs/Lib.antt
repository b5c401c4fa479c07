pub mod Named
pub mod Selected
pub mod Symbols
pub mod Table
pub mod System
