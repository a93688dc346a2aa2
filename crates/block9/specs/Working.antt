-- What the clauses of private functions cite, and what stands inside a `Pairer`. No public contract reaches it, so no
-- reader has to believe it.
pub mod Body
pub mod Row
pub mod Table
pub mod Inside
