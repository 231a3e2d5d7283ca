pub mod Headers
pub mod Modules
pub mod NameLists
pub mod Numbers
pub mod Parameters
pub mod Params
pub mod Ranges
