pub mod Floors
pub mod Bags
pub mod Lanes
pub mod Lent
pub mod BagLemmas
pub mod LanesLemmas
pub mod LentLemmas
