pub mod Codes
pub mod Makings
pub mod Texts
pub mod PackKindLemmas
