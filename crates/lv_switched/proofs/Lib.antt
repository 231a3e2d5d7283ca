pub mod Guarding
pub mod Reached
pub mod Places
pub mod Concluded
