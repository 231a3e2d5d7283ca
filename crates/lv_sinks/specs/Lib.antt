pub mod Clocks
pub mod Connected
pub mod Sinks
