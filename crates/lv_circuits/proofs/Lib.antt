pub mod Joins
pub mod More
pub mod Numbers
pub mod RowLaws
pub mod Steps
mod Moves
mod Products
mod RowJoins
