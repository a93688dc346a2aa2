pub mod Outcome
pub mod Trying
pub mod Making
