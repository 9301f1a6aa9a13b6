pub mod Sample
pub mod Bits
pub mod OffsetLemmas
pub mod SoundLemmas
pub mod NullRuns
pub mod NumberLemmas
mod FixedNumbers
