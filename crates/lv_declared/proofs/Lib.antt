pub mod Adding
pub mod Labelled
