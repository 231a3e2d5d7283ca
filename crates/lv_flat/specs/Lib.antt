pub mod Cells
pub mod Executing
pub mod FlatViews
pub mod Flows
pub mod Good
pub mod Judged
pub mod Signals
pub mod Trees
