use Rattle.why9.proofs.Words.{arith, false≢true, length, nat_le, nat_tests, Possible, sym, ◌-◌, ◌∙◌}
use Rattle.why9.proofs.SearchLemmas.{first-asked, none_from_first, some_last, without_last}
use Rattle.why9.proofs.search.first_place.Goals as goal

pub loop-high-init : goal.loop-high-init
loop-high-init c =
    let some = some_last _ _ c.requires.breaks in
    record {
      low_high = some;
      high_end = omega arith;
      contradict = none_from_first _ _ c.requires.breaks;
      after = without_last _ (nat_le (length c.args.exchanges.now)) _ (length c.args.exchanges.now - 1) c.requires.breaks (omega arith)
          (grind (arith, nat_tests));
    }

pub loop-high-preserved-then-branch : goal.loop-high-preserved-then-branch
loop-high-preserved-then-branch c =
    let asked = first-asked c.args.tracker.now.profile (Possible c.args.tracker.now.states) c.args.exchanges.now (c.loop-high.high - c.min.result)
    c.requires.states (omega arith) in
    record {
      low_high = omega arith;
      high_end = omega arith;
      contradict = c.loop-high.invariant.contradict;
      after = asked.0 ((rw c.requires.going at c.in_ok-leaves_a_run.ensures).0 c.if-branch.true);
    }

pub loop-high-preserved : goal.loop-high-preserved
loop-high-preserved c =
    let asked = first-asked c.args.tracker.now.profile (Possible c.args.tracker.now.states) c.args.exchanges.now (c.loop-high.high - c.min.result)
    c.requires.states (omega arith) in
    record {
      low_high = omega arith;
      high_end = c.loop-high.invariant.high_end;
      contradict = λ w. false≢true (sym c.if-branch.false ∙ (rw c.requires.going at c.in_ok-leaves_a_run.ensures).1 (asked.1 w));
      after = c.loop-high.invariant.after;
    }
