pub mod Allowed
pub mod Later
pub mod Steps
pub mod Whole
