pub mod Hearings
pub mod Running
pub mod Tallies
