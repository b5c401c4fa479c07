pub mod Places
pub mod Fit
pub mod Found
pub mod Answers
