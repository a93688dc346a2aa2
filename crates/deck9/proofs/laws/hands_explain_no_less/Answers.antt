use Rattle.deck9.proofs.LawLemmas.{run_with_hands}
use Rattle.deck9.proofs.laws.hands_explain_no_less.Goals as goal

pub returns : goal.returns
returns c = run_with_hands
