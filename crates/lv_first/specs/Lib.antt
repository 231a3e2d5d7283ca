pub mod FirstContract
pub mod Formulas
pub mod Problems
pub mod FirstForm
pub mod Signals
pub mod Verdicts
