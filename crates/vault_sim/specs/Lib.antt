pub mod Disks
pub mod Fuses
pub mod Images
pub mod MemVaults
pub mod Pasts
pub mod Steps
