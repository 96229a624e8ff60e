pub mod Cycles
pub mod Hearing
pub mod Views
