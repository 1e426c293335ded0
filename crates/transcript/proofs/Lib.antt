pub mod Begun
pub mod Decimals
pub mod Spaced
pub mod Lengths
