pub mod JoinLemmas
pub mod RunLemmas
pub mod GatherLemmas
pub mod Batches
pub mod Sample
