pub mod Declared
pub mod Named
pub mod Runs
pub mod Typed
pub mod Pasts
pub mod Channels
pub mod Pushes
pub mod Sessions
pub mod OpenedSessions
pub mod RefusedPushes
pub mod Sample
pub mod Written
pub mod Readings
mod FedBytes
mod ReplayedFeeds
mod ReplayedSteps
mod ReplayedRuns
mod BrokenFeeds
mod Restored
mod ReleasedRecords
mod LastItems
mod TouchedRows
pub mod StoredViews
pub mod LentRows
pub mod LentViews
