pub mod Joining
pub mod Spreading
pub mod Standing
