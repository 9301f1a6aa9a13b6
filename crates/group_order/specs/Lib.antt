pub mod GroupEntries
pub mod EntryForms
pub mod Ranked
pub mod RankedParts
