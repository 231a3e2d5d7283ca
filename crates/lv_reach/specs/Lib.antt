pub mod Fanout
pub mod Spreading
