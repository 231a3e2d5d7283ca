pub mod Fronts
pub mod Pieces
pub mod Readings
pub mod Refusals
pub mod Shown
pub mod Steps
pub mod Tables
