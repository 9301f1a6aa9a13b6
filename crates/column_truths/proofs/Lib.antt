pub mod JoinedTruths
pub mod CodeLemmas
pub mod RowLemmas
pub mod LaneNumbers
pub mod SpanLemmas
pub mod LaneRuns
pub mod NumberTruths
pub mod FirstCells
