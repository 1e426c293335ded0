pub mod Encodings
pub mod OneWay
