pub mod Laws
pub mod Leaves
pub mod Lexemes
pub mod Rules
pub mod Shapes
