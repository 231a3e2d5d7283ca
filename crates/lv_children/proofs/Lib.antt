pub mod Answering
pub mod Loops
