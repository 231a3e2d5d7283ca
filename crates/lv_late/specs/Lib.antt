pub mod Accepted
pub mod Lates
pub mod Outers
pub mod Settings
pub mod Standing
