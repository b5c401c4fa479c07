pub mod Places
pub mod Walked
pub mod Answers
