pub mod Day
pub mod Word
