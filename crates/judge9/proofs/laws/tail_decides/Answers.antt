use Rattle.judge9.proofs.Words.{[], kept_by_tail, tail_by_kept, ◌∷◌}
use Rattle.judge9.proofs.laws.tail_decides.Goals as goal
use Rattle.judge9.proofs.LawLemmas.{breaks_tail, tail_breaks}

pub returns : goal.returns
returns c = record {
  kept = λ rate p es t r cut. (tail_by_kept rate p es t (r ∷ []) cut, kept_by_tail rate p es t (r ∷ []) cut);
  reason = λ h p es t cut run r broken x. (breaks_tail h p es t r x cut broken, tail_breaks h p es t r x cut run broken);
}
