pub mod Growing
pub mod Copying
pub mod Slotting
pub mod Packing
pub mod Rowing
pub mod Unrolling
pub mod Agreeing
pub mod Observing
