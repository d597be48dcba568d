pub mod Block
pub mod Part
pub mod Span
pub mod Tiles
