pub mod Gates
