pub mod Added
pub mod Bits
pub mod Cells
pub mod Sharing
