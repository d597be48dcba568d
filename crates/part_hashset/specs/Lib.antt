pub mod Goals
pub mod HashSet
pub mod HashSetLaws
pub mod WholeParts
