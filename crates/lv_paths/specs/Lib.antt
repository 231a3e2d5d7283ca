pub mod Bits
pub mod Fits
pub mod Ways
