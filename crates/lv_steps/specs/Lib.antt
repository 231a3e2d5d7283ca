pub mod Step
pub mod Files
pub mod Texts
pub mod Chain
pub mod Exact
pub mod Total
