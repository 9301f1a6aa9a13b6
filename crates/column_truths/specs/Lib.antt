pub mod Compared
pub mod RowTruths
pub mod Spans
