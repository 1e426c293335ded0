pub mod Runs
pub mod Playing
pub mod Outcomes
pub mod Files
pub mod Theorems
