pub mod Puts
pub mod HeadAndBody
pub mod WrittenLemmas
pub mod Counts
pub mod BatchFits
pub mod Cut
pub mod Whole
pub mod CutBack
pub mod ClosedBatchLemmas
pub mod ProgressLemmas
pub mod TableWriterLemmas
pub mod AboveZero
pub mod FramingRead
pub mod Lengths
pub mod BatchRead
pub mod RowsRead
pub mod Decoded
pub mod NumberedTexts
pub mod ValueLemmas
pub mod IndexedRows
pub mod CodedRead
pub mod CodedMessages
pub mod DictionaryBodies
pub mod IndexedBodies
pub mod StreamRead
mod Sample
pub mod PlainRows
pub mod BatchRowLemmas
pub mod FittingLemmas
pub mod RowWeights
mod RangeLemmas
mod RangeBoundLemmas
mod JoinedLemmas
mod PlaceBoundLemmas
mod PlaceRowLemmas
pub mod ViewLemmas
