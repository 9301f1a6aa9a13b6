pub mod SameFields
pub mod LongEnough
pub mod Stages
pub mod Messages
pub mod WantedLemmas
pub mod GatherLemmas
pub mod AcrossLemmas
pub mod MissingLemmas
pub mod Facts
pub mod Sounds
pub mod Streams
pub mod Framers
pub mod Lawful
pub mod Brings
pub mod Runs
pub mod Feedings
mod Sample
