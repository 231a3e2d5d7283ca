pub mod AssignLaws
pub mod CaseLaws
pub mod Lists
pub mod LoopLaws
pub mod Stands
pub mod StmtLaws
