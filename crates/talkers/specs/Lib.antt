pub mod Faults
pub mod Making
pub mod Sending
pub mod Views
