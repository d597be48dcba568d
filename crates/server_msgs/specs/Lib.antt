pub mod Ids
pub mod Laws
pub mod Lists
pub mod Reading
pub mod Request
pub mod Spelling
