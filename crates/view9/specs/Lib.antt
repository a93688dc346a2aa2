pub mod Json
pub mod Working
