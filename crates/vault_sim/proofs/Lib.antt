pub mod Crosses
mod Lists
pub mod Moments
mod StepLemmas
mod Walks
