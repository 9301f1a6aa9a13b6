mod AsBox
mod Filled
mod OpenedSessions
