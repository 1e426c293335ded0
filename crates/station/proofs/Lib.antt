pub mod Duties
pub mod Backing
pub mod Readings
pub mod Fresh
pub mod News
pub mod Searches
pub mod Turns
pub mod Settled
