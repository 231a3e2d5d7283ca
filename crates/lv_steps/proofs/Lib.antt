pub mod Reading
pub mod Chained
pub mod Exact
pub mod Texts
pub mod Inputs
pub mod Total
pub mod Lexing
pub mod Answered
