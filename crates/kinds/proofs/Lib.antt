pub mod Nibbles
pub mod Quadlets
