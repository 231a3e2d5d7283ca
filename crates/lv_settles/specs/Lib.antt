pub mod Lawful
pub mod Orders
pub mod Rules
pub mod Clocked
