pub mod DesignFaults
pub mod FixedReadings
pub mod InstanceFaults
pub mod ScopeFaults
pub mod Unfixed
