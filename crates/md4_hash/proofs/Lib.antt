pub mod Blocks
pub mod Pieces
pub mod StandardFacts
pub mod Words
