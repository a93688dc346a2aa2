-- What the clauses of private functions cite: how the sets that a tracker keeps change, as functions. No public
-- contract reaches it, so no reader has to believe it.
pub mod Acting
pub mod Pattern
pub mod Codes
pub mod Deck
pub mod Deed
pub mod Entries
pub mod Knowing
pub mod Pairs
pub mod Parts
pub mod Starts
pub mod States
pub mod Touched
