pub mod Cells
pub mod Designs
