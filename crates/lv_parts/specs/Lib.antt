pub mod Assigns
pub mod Blocks
pub mod Errors
pub mod Items
pub mod Made
pub mod Nets
