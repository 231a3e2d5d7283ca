pub mod Openings
pub mod Prefixes
