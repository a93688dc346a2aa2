use Rattle.why9.proofs.Words.{false≢true, Possible, sym, ◌∙◌}
use Rattle.why9.proofs.QuestionLemmas.{goes-range, passed-to}
use Rattle.why9.proofs.search.moves_on.Goals as goal

pub returns-then-branch-clause-run : goal.returns-then-branch-clause-run
returns-then-branch-clause-run c t =
    (goes-range c.args.tracker.now.profile c.args.exchanges.now c.args.low c.args.place c.args.tracker.now.going (Possible c.args.tracker.now.states) c.requires.low c.requires.place).0
    (c.in_ok-leaves_a_run.ensures.0 c.if-branch.true)

pub returns-clause-contradict : goal.returns-clause-contradict
returns-clause-contradict c t g =
    let asked = goes-range c.args.tracker.now.profile c.args.exchanges.now c.args.low c.args.place c.args.tracker.now.going (Possible c.args.tracker.now.states) c.requires.low
    c.requires.place in
    false≢true (sym c.if-branch.false ∙ c.in_ok-leaves_a_run.ensures.1 (asked.1 g))

pub returns-clause-passed : goal.returns-clause-passed
returns-clause-passed c t = passed-to _ _ _ _ _ _ _ _ c.requires.low c.requires.place c.in_ok-pass_all.ensures.passed
