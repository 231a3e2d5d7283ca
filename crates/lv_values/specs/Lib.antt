pub mod Picked
pub mod Windows
pub mod Worlds
