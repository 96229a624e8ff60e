pub mod Checking
pub mod Faults
pub mod Laws
pub mod Placing
pub mod Reading
pub mod Walking
