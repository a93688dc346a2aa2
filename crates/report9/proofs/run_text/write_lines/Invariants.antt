use Rattle.report9.proofs.Words.{length, ◌*◌, ◌+◌, ◌≤◌}
use Rattle.report9.proofs.run_text.write_lines.Given as goal
use Rattle.report9.proofs.Lines.{LinesSoFar}

abbrev pub invariant-loop-exchange : goal.invariant-loop-exchange
invariant-loop-exchange g l =
    (goal.iterator-loop-exchange g).can_next l.exchange-iterator × (goal.iterator-loop-exchange g).is_finite l.exchange-iterator
    × (l.at ≤ l.past + 36 * length l.yielded)
    × LinesSoFar l.profile l.past l.exchanges l.states l.exchange-iterator.a.rest.now l.exchange-iterator.b.rest.now l.at (g.W.Write.contents l.fn.writer)
    (g.W.Write.contents l.writer)
