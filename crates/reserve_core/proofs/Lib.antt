mod Added
mod Answered
mod Begun
mod Choosing
pub mod Counted
pub mod Counts
mod Dropped
pub mod Durable
pub mod Events
pub mod Fresh
pub mod HoldsAfter
mod HolderEdits
mod HoldersAfter
pub mod Judgeable
pub mod Judged
pub mod Latest
mod LegalLogs
pub mod Lists
mod NewestOffers
mod OneHolder
mod OneRange
pub mod Quiet
mod Reserved
pub mod Runs
mod Small
pub mod Unsettled
pub mod VerifiedFull
pub mod Writable
