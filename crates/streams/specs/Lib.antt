pub mod Laws
pub mod Making
pub mod Relays
pub mod Runs
