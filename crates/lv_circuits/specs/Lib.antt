pub mod Words
pub mod Moves
pub mod Products
pub mod Rows
