pub mod Merged
pub mod Sample
