pub mod Domain
pub mod Sets
pub mod Touched
