use Rattle.deck9.proofs.ContradictLemmas.{given_answers, some_answers}
use Rattle.deck9.proofs.laws.whatever_else_was_answered.Goals as goal

pub returns : goal.returns
returns c = record { contradict = given_answers; answered = some_answers }
