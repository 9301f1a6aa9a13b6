pub mod OrderedGroups
pub mod RankedRows
pub mod LentRows
pub mod EntryChanges
