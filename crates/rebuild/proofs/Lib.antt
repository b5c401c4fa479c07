pub mod Folded
pub mod Given
pub mod Factors
pub mod Coefficients
pub mod Row
pub mod Column
pub mod Answers
