pub mod Folding
pub mod Judging
pub mod Layout
pub mod Packet
pub mod Way
pub mod WayLaws
