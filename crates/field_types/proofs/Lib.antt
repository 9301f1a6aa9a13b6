pub mod Faults
pub mod Texts
pub mod TypeFacts
pub mod Children
pub mod StoredLaws
pub mod TypeRead
pub mod TypeSizes
pub mod TypeLaws
