pub mod Inlet
pub mod Intake
pub mod Laws
pub mod Reads
pub mod Sending
pub mod Stops
