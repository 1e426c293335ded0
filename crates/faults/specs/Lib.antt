pub mod Sizes
pub mod Senses
pub mod Faults
pub mod Rules
pub mod Lists
pub mod Made
pub mod WithinLemmas
pub mod RuleLaws
