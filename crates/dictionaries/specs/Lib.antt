pub mod Joined
pub mod Runs
pub mod Batches
pub mod Table
pub mod Law
