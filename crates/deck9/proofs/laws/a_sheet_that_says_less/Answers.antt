use Rattle.deck9.proofs.LessLemmas.{says_no_more}
use Rattle.deck9.proofs.laws.a_sheet_that_says_less.Goals as goal

pub returns : goal.returns
returns c = says_no_more
