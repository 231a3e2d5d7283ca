pub mod Directions
pub mod Named
pub mod Pairs
pub mod Whole
