pub mod Notes
pub mod Peers
pub mod Stands
pub mod Turns
