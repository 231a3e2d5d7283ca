pub mod Graphs
pub mod Sharing
