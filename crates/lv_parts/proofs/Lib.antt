pub mod AddLaws
pub mod AssignLaws
pub mod BlockLaws
pub mod ItemLaws
pub mod NetLaws
pub mod Tellings
