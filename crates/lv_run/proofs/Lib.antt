pub mod Codes
pub mod Answering
pub mod Completing
pub mod Unbuilt
