pub mod Bits
pub mod Codes
pub mod Nibbles
