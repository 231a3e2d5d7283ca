pub mod Answers
pub mod Grouping
pub mod Paths
pub mod Sources
pub mod Steps
