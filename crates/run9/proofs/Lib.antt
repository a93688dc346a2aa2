pub mod WayBackSteps
pub mod Words
