pub mod Makings
pub mod SampleViews
pub mod Samples
