mod BufferLemmas
pub mod SheetLemmas
