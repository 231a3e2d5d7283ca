pub mod Causes
pub mod Files
pub mod Given
pub mod Outside
pub mod MemFiles
pub mod MemGiven
