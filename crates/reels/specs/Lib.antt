pub mod Bytes
pub mod Captures
pub mod Full
pub mod Plans
pub mod Records
pub mod Trailers
pub mod Writing
