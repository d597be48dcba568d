pub mod Division
pub mod IdentLemmas
pub mod KeptLemmas
pub mod LeafLemmas
pub mod PlaceLemmas
pub mod StreamLemmas
pub mod TreeLemmas
