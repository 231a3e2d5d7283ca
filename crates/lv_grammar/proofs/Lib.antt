pub mod Completions
pub mod Expressions
pub mod Fits
pub mod Settings
pub mod Shaped
