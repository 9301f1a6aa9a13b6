pub mod FilterParts
pub mod Places
pub mod SubGroups
pub mod Moved
