pub mod Grammar
pub mod Spelling
pub mod Sets
pub mod Reading
pub mod Facts
pub mod At
pub mod Nexts
