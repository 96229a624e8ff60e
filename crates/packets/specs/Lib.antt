pub mod Headers
pub mod Sorting
