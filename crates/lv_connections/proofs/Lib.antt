pub mod PortLaws
pub mod JoinLaws
pub mod LoopLaws
pub mod WholeLaws
pub mod BoundLaws
