-- What a capture has still to give, which is read once, or kept and read again.
use Rattle.std.specs.Prelude.{ℕ, List, None, Option, Some}
use Rattle.program9.specs.declared.again.Again.{Again}
use Rattle.program9.specs.declared.again.Again.TheVariants as again

-- what its reader has, where that is known; or the rest of the text. Of both in a row nothing is said, nor of some of its lines
abbrev pub still_to_come : {R : Type 0} → (R → Option (List ℕ)) → Again R → Option (List ℕ)
still_to_come coming (again.Opened reader) = coming reader
still_to_come coming (again.Kept text) = Some text.now
still_to_come coming (again.Followed both) = None
still_to_come coming (again.Cut lines) = None
still_to_come coming (again.Keeping kept) = coming kept.now.reader
