pub mod Values
pub mod Gradings
pub mod Payloads
pub mod Acts
