pub mod Edges
pub mod Shared
