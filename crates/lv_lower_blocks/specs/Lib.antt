pub mod Aimed
pub mod Cased
pub mod Rewritten
pub mod Running
