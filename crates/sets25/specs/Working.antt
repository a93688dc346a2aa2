-- What the clauses of private functions cite. No public contract reaches it, so no reader has to believe it.
pub mod Moves
pub mod SharedSets
pub mod ShortLists
pub mod SpanLists
pub mod SpanMoves
pub mod TimesWhere
