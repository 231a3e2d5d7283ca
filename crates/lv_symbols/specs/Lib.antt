pub mod Answers
pub mod Frames
pub mod Giving
pub mod Making
