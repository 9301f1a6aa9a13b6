pub mod Bits
pub mod Packed
pub mod Blocks
pub mod Truths
