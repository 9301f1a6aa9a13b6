pub mod SchemaFbs
pub mod Reads
pub mod Kinds
pub mod Types
pub mod StoredLaws
pub mod TypeTree
pub mod TypeLaw
