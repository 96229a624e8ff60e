pub mod Grading
pub mod Hearings
pub mod Plans
pub mod Tallies
