pub mod Entered
pub mod Cut
pub mod Refusals
pub mod Checks
pub mod RuleOnce
pub mod FileOnce
