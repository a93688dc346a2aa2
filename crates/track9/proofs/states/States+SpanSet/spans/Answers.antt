use Rattle.track9.proofs.states.States+SpanSet.spans.Goals as goal
use Rattle.track9.proofs.KnownLemmas.{spans_off}
use Rattle.std.proofs.Common.{arith}

pub returns-in-None : goal.returns-in-None
returns-in-None = grind (arith, spans_off)
