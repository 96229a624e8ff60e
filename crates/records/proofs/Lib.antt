pub mod Captured
pub mod Reading
pub mod Walking
pub mod Whole
