pub mod Wires
pub mod Copies
pub mod Slots
pub mod Entries
pub mod Unrolls
pub mod Agreements
