pub mod Appending
pub mod Beginning
mod Bytes
pub mod Called
pub mod Carried
pub mod DurableSteps
pub mod Followed
pub mod Gaining
pub mod GoodStates
mod Judged
mod Kept
mod Laid
pub mod Leaving
pub mod LogKept
mod Logs
mod Made
pub mod Served
pub mod Recording
pub mod Stepping
pub mod Opening
pub mod Origins
pub mod Written
