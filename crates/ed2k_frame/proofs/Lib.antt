pub mod Heads
pub mod Fronts
pub mod Pieces
pub mod StreamLaws
