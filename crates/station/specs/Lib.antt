pub mod Stages
pub mod Duties
pub mod Stations
pub mod Turns
