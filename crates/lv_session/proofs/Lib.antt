pub mod Keeping
pub mod Asking
pub mod Fitting
pub mod Blocking
