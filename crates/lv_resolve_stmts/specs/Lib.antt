pub mod Cases
pub mod Joins
pub mod Statements
