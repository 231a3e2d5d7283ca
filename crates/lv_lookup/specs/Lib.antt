pub mod Levels
pub mod Nested
