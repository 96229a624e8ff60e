pub mod Captured
pub mod Desks
pub mod Left
pub mod Wrap
