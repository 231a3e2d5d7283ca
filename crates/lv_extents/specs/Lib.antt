pub mod Adds
pub mod Blocks
pub mod Extents
