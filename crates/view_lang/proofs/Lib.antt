pub mod Truths
mod Fields
mod OwnColumns
mod Columns
mod CellFits
mod InputRows
mod GroupCells
mod OrderedCells
mod PermutedCells
mod AggregateCases
mod ViewRows
mod KeyCells
mod Sample
pub mod Orders
pub mod StableOrder
pub mod ShownRows
pub mod Distinct
pub mod PassingRows
pub mod TruthLaws
pub mod OrderLaws
pub mod Tuples
pub mod KeptRows
pub mod Multisets
pub mod RowImages
pub mod OneByOne
pub mod LiveKeys
pub mod AscendingKeys
pub mod OwnEntries
pub mod LastEntries
pub mod ExactKeys
pub mod ShownCells
