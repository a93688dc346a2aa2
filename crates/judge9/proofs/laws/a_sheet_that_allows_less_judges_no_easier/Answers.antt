use Rattle.block9.proofs.CutLemmas.{cut_taking_more}
use Rattle.deck9.proofs.LessLemmas.{no_more_runs}
use Rattle.deck9.specs.Deck.{replies_of}
use Rattle.judge9.proofs.laws.a_sheet_that_allows_less_judges_no_easier.Goals as goal
use Rattle.judge9.proofs.Words.{counting, line_rules}
use Rattle.judge9.proofs.LawLemmas.{no_with_more, yes_with_more}

pub returns-clause-yes : goal.returns-clause-yes
returns-clause-yes c = λ p less more past rows records exchanges tail forgets takes ways acts.
    yes_with_more (record p { deck = less }) (record p { deck = more }) (cut_taking_more (line_rules (counting (record p { deck = less }))) (replies_of more) takes)
    (no_more_runs p less more forgets ways acts) past rows records exchanges tail

pub returns-clause-no : goal.returns-clause-no
returns-clause-no c = λ p less more past rows at other reason another forgets takes ways acts.
    no_with_more (record p { deck = less }) (record p { deck = more }) (cut_taking_more (line_rules (counting (record p { deck = less }))) (replies_of more) takes)
    (no_more_runs p less more forgets ways acts) past rows at other reason another
