pub mod Names
pub mod Gives
pub mod Trees
pub mod Productions
