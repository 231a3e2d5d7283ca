pub mod Children
pub mod Turns
