pub mod HandleContent
pub mod Answers
pub mod Behind
pub mod Copies
pub mod Calls
