pub mod BesideLemmas
pub mod LaneLemmas
