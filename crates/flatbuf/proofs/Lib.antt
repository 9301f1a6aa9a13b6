pub mod Ends
pub mod Views
mod Sample
pub mod PushLemmas
pub mod Lengths
pub mod Places
pub mod Slots
pub mod ReadsBack
pub mod ReaderAnswers
