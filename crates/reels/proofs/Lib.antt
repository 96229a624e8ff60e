pub mod Captures
pub mod Records
