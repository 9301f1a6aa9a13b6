pub mod Layout
pub mod Tree
pub mod Written
pub mod Slots
pub mod Built
pub mod Held
pub mod Law
