pub mod Fits
pub mod Net
pub mod Run
pub mod Stepping
pub mod Queries
