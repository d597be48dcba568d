pub mod SetLemmas
pub mod WholeParts
