pub mod Lists
pub mod Numbers
pub mod Stages
pub mod Keeps
pub mod Turns
pub mod Clients
