pub mod Root
pub mod Finds
pub mod Filters
pub mod Sound
pub mod Next
pub mod Others
pub mod Asked
