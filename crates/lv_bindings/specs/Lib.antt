pub mod Bound
pub mod Grouping
pub mod Made
pub mod Order
pub mod Standing
pub mod Tables
