pub mod Hubs
pub mod Lists
pub mod Driven
pub mod Shares
pub mod Feeds
pub mod Planned
pub mod Edges
pub mod Keys
