pub mod Faults
pub mod Setups
pub mod Settings
pub mod Tables
pub mod Rigs
pub mod Posts
pub mod Calls
pub mod Outcomes
