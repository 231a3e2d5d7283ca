pub mod Blanks
pub mod Build
pub mod Examples
pub mod ExprFolds
pub mod ItemFolds
pub mod StmtFolds
