pub mod Delays
pub mod Faults
pub mod Methods
pub mod Planning
pub mod Rates
pub mod Stamps
pub mod Streams
