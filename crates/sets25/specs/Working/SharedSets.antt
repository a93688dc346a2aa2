-- That the members of a `SharedSet` are below the day.
use Rattle.std.specs.Prelude.{Option, None, Some}
use Rattle.std.proofs.Common.{◌≡◌, ◌<◌, ℕ, true, arith, nat_cmp}
use Rattle.std.specs.Cmp.{nat_cmp_total}
use Rattle.std.specs.FinSet as set
use Rattle.std.specs.declared.alloc.Global.{Global}
use Rattle.std.specs.declared.rc.Rc.{Rc}
use Rattle.tc25.specs.Day.{day}
use Rattle.tc25.specs.declared.rate.Rate.{Rate}
use Rattle.sets25.specs.SharedSet.{members_of, shared_members}
use Rattle.sets25.specs.SharedDay.{SharesDay}
use Rattle.sets25.specs.HeldSpans.{spans_held}
use Rattle.sets25.specs.Spans.{is_covered}
use Rattle.sets25.specs.Times.{BelowDay}
use Rattle.sets25.specs.Working.TimesWhere.{times_where_below}
use Rattle.sets25.specs.declared.shared_set.SharedSet.{SharedSet}
use Rattle.sets25.specs.declared.span_set.SpanSet.{SpanSet}

shared_below : (rate : Rate) (base : Option (Rc SpanSet Global)) → SharesDay rate base → BelowDay rate (shared_members base)
shared_below rate None same t there = grind (arith, set.contains-empty nat_cmp)
shared_below rate (Some base) same t there = rw same at (times_where_below base.value.rate _ t there)

pub shared_set_below : (s : SharedSet) (t : ℕ) → set.contains (members_of s) t ≡ true → t < day s.own.rate
shared_set_below s t there =
    let own = times_where_below s.own.rate (λ f. is_covered f (spans_held s.own.spans)) t in
    grind (arith, set.contains-union nat_cmp_total, shared_below s.own.rate s.base s.same_day t)
