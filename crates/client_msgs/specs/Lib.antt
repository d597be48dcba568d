pub mod Laws
pub mod Lists
pub mod Own
pub mod Reading
pub mod Spelling
