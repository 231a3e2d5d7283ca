pub mod Switches
pub mod Opened
