pub mod TopNames
pub mod Resolved
pub mod Walking
