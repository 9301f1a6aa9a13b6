pub mod NoNumbers
pub mod Changed
pub mod Exactness
pub mod Gathered
pub mod Numbered
pub mod SameEntries
pub mod Taken
