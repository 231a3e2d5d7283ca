pub mod Lists
pub mod LinkLaws
pub mod GivenLaws
