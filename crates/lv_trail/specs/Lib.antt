pub mod Arena
pub mod Chains
pub mod Trail
pub mod Store
pub mod Search
pub mod Watches
pub mod Looks
