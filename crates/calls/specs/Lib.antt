pub mod Format
pub mod Calls
pub mod Making
pub mod Theorems
