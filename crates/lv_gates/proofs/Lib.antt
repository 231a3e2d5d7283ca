pub mod Meaning
pub mod Adding
