pub mod Runs
pub mod Endings
pub mod OneText
