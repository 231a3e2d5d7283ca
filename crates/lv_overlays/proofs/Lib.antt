mod Events
mod Unmixed
pub mod Overlays
