pub mod Divided
pub mod Named
pub mod Reached
pub mod Tables
