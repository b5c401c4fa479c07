pub mod NodeLists
pub mod Answers
pub mod Known
pub mod Partners
pub mod Columns
pub mod Data
