pub mod Strips
pub mod Planes
