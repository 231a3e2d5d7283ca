pub mod Bits
pub mod Chosen
pub mod Growth
pub mod Picking
pub mod Selecting
pub mod Windows
