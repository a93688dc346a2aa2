use Rattle.sheet9.proofs.Words.{length, sym, ◌<◌}
use Rattle.std.proofs.Common.{subst}
use Rattle.sheet9.proofs.ReplyLemmas.{modes_of_some}
use Rattle.sheet9.proofs.modes.modes_in.Goals as goal

pub returns-in_default-as_slice-clause-ok : goal.returns-in_default-as_slice-clause-ok
returns-in_default-as_slice-clause-ok c =
    rw (sym c.in-Some.ensures, modes_of_some c.args.table c.args.key.now c.in-Some.names.now.items (subst (λ l. 0 < length l) c.as_slice.ensures.value c.in_default-as_slice.len_at_least))
    c.with_names.ensures.ok
