-- Lemmas of the log file.
mod Adding
pub mod Assembled
mod Fielding
pub mod Filled
pub mod Folding
mod Freshness
pub mod Fronts
pub mod Gates
pub mod Heads
pub mod Held
pub mod Looking
pub mod Payloads
pub mod Spelled
pub mod Steps
pub mod Unique
