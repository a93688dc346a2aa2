use Rattle.text9.proofs.Escapes.{none_marked}
use Rattle.text9.proofs.markup.escaped_text_has_no_marks.Goals as goal

pub returns : goal.returns
returns c = none_marked
