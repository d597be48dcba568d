pub mod Takes
pub mod Calls
pub mod Streams
mod Sends
