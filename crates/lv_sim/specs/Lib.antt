pub mod Simulation
pub mod Task
