pub mod Body
pub mod Calls
pub mod Durable
pub mod Origin
pub mod Outlasts
pub mod Solo
