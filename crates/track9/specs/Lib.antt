pub mod Following
pub mod Frugal
pub mod Presets
pub mod Start
pub mod Touched
pub mod Tracker
pub mod Working
