mod FirstPlace
pub mod Runs
