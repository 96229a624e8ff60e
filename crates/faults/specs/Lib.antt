pub mod Located
pub mod Outcomes
pub mod Packets
pub mod Records
pub mod Refusals
pub mod Units
