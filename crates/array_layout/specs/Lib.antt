pub mod Placing
pub mod Buffers
pub mod Sound
pub mod Cells
pub mod Typed
