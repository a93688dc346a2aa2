use Rattle.deck9.proofs.LawLemmas.{run_with_hands}
use Rattle.deck9.specs.declared.state.Hands.TheVariants as hands
use Rattle.judge9.proofs.laws.hands_judge_no_harder.Goals as goal
use Rattle.judge9.proofs.LawLemmas.{no_with_more, yes_with_more}

pub returns-clause-yes : goal.returns-clause-yes
returns-clause-yes c = λ rate deck.
    yes_with_more (record { rate = rate; hands = hands.None; deck = deck }) (record { rate = rate; hands = hands.Allowed; deck = deck }) (λ records es t cut. cut)
    (run_with_hands rate deck)

pub returns-clause-no : goal.returns-clause-no
returns-clause-no c = λ rate deck.
    no_with_more (record { rate = rate; hands = hands.None; deck = deck }) (record { rate = rate; hands = hands.Allowed; deck = deck }) (λ records es t cut. cut)
    (run_with_hands rate deck)
