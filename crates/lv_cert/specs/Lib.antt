pub mod Words
pub mod Values
pub mod Lines
pub mod Grammar
pub mod Parts
pub mod Sections
pub mod Inputs
pub mod Whole
