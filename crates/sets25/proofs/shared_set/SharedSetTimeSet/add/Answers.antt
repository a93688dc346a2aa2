-- A time is added to what is its own, or the base has it already.
use Rattle.sets25.proofs.Lemmas.{ap, on_ok_weaker, sym, with_time-member, with_time-union, ◌∙◌}
use Rattle.sets25.specs.SharedSet.{shared_members}
use Rattle.std.specs.FinSet as set
use Rattle.sets25.proofs.shared_set.SharedSetTimeSet.add.Goals as goal

pub returns-then-shares-clause-ok : goal.returns-then-shares-clause-ok
returns-then-shares-clause-ok c = with_time-member c.args.self.now.own.rate _ _ c.args.time (sym c.shares.ensures ∙ c.if-shares.true)

pub returns-clause-ok : goal.returns-clause-ok
returns-clause-ok c =
    on_ok_weaker c.add.result
    (λ told. ap (set.union (shared_members c.args.self.now.base)) told ∙ with_time-union c.args.self.now.own.rate _ _ c.args.time) c.add.ensures.ok
