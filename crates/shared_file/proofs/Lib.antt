pub mod Closed
pub mod NoteLemmas
pub mod Turns
