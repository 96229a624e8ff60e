pub mod Carrying
pub mod Streams
pub mod Units
pub mod Words
