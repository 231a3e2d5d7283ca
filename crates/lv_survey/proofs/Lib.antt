pub mod Counting
pub mod Growing
pub mod Serving
pub mod Telling
pub mod Walking
