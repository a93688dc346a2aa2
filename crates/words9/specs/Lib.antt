pub mod Values
pub mod Words
pub mod Working
