use Rattle.deck9.proofs.LessLemmas.{names_no_more}
use Rattle.deck9.proofs.laws.a_sheet_that_names_less.Goals as goal

pub returns : goal.returns
returns c = λ less more names. names_no_more less more names
