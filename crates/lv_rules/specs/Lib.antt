pub mod Drives
pub mod Reads
pub mod Rules
pub mod Wires
