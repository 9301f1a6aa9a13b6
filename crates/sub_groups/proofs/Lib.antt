pub mod Absent
pub mod Conjuncts
pub mod FilterSplit
pub mod RepresentativeRows
pub mod CountedRows
pub mod RepresentativeCells
pub mod MovedViews
