pub mod Format
pub mod Bodies
pub mod Kinds
pub mod Making
pub mod KindLaws
