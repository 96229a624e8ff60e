pub mod Accepted
pub mod Invariant
pub mod Law
pub mod Lists
pub mod One
pub mod Packets
pub mod Trip
