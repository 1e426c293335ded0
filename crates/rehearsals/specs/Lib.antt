pub mod Gates
pub mod GateLemmas
