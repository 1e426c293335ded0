pub mod Text
pub mod Lines
pub mod Faults
pub mod Fields
pub mod Putting
pub mod Playing
