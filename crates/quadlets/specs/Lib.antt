pub mod Markers
pub mod Texts
