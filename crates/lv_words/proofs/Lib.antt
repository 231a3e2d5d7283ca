pub mod Asking
pub mod Examples
pub mod Matched
pub mod Parsed
pub mod Texts
pub mod Written
