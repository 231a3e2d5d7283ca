pub mod Hubs
pub mod Drivers
pub mod Tables
pub mod Plans
