mod Lines
pub mod Rows
pub mod Words
pub mod WriteLemmas
