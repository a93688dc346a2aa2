use Rattle.block9.proofs.Words.{ap, Block, sym, ◌+◌, ◌∙◌}
use Rattle.block9.proofs.SpellingLemmas.{spelled_by}
use Rattle.block9.proofs.block.Block.from_bytes.Goals as goal
use Rattle.block9.proofs.block.Block.from_bytes.Goals.{then-body-from-via-then-body-from, then-body-from-via-else-body-from+then-sum_of-sum}

pub returns-then-body-from-clause-none : goal.returns-then-body-from-clause-none
returns-then-body-from-clause-none c =
    let by = λ (b : Block). spelled_by _ _ _ _ b c.in_ok-sum.ensures.cases.0 c.in_ok-first.ensures.value in
    elim c.then-body-from.branch [
      | then-body-from-via-then-body-from w ↦ λ b h. w.if-body-from.true ((by b h).0 ∙ ap (λ n. n + 2) (cc))
      | then-body-from-via-else-body-from+then-sum_of-sum w ↦ λ b h. let same = sym (by b h).1 in w.if-sum_of-sum.true (cc)
    ]
