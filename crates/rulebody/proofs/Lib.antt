pub mod Pairs
pub mod Standing
