pub mod Headers
pub mod LateHeaders
pub mod Turns
