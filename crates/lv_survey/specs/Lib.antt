pub mod Counts
pub mod Errors
pub mod Items
pub mod Scenes
pub mod Surveys
