use Rattle.why9.proofs.Words.{arith, Possible, ◌∙◌}
use Rattle.why9.proofs.SearchLemmas.{between-moved, between-nearer, passed-on}
use Rattle.why9.proofs.search.next_place.Goals as goal

pub loop-place-preserved-then-branch : goal.loop-place-preserved-then-branch
loop-place-preserved-then-branch c =
    let profile = c.loop-place.invariant.profile in
    let passed = rw profile at (c.in_ok-moves_on.ensures.passed c.if-branch.true) in
    let none = rw profile at (c.in_ok-moves_on.ensures.contradict c.if-branch.true) in
    record {
      step = c.loop-place.invariant.next_step;
      next_step = let next = c.loop-place.invariant.next_step in omega arith;
      profile = c.in_ok-moves_on.ensures.profile ∙ profile;
      above = omega arith;
      between = between-moved _ _ _ (Possible c.loop-place.tracker.states) _ _ _ _ _ c.loop-place.invariant.between (omega arith) (omega arith) none passed;
      passed = passed-on _ _ _ _ _ (Possible c.loop-place.tracker.states) _ _ _ c.loop-place.place _ c.loop-place.invariant.above (omega arith)
          c.loop-place.invariant.passed passed;
    }

pub loop-place-preserved : goal.loop-place-preserved
loop-place-preserved c =
    let run = rw c.loop-place.invariant.profile at (c.in_ok-moves_on.ensures.run c.if-branch.false) in
    rw (c.in_ok-moves_on.ensures.unchanged c.if-branch.false) record {
      step = c.loop-place.invariant.next_step;
      next_step = let next = c.loop-place.invariant.next_step in omega arith;
      profile = c.loop-place.invariant.profile;
      above = c.loop-place.invariant.above;
      between = between-nearer _ _ _ _ _ _ _ c.loop-place.invariant.between (omega arith) (omega arith) run;
      passed = c.loop-place.invariant.passed;
    }
