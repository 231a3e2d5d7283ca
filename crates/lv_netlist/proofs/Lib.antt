pub mod Names
pub mod Nets
pub mod Words
