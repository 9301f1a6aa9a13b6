pub mod Stored
pub mod Shelves
