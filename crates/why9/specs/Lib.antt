pub mod Contradiction
pub mod Shown
pub mod Working
