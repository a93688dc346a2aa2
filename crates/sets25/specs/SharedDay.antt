-- The day of what a `SharedSet` shares.
use Rattle.std.specs.Prelude.{◌≡◌, Option, None, Some, ⊤}
use Rattle.std.specs.Coded.{Coded-set, coded_ℕ, Unit-prop}
use Rattle.std.specs.declared.alloc.Global.{Global}
use Rattle.std.specs.declared.rc.Rc.{Rc}
use Rattle.tc25.specs.Day.{day}
use Rattle.tc25.specs.declared.rate.Rate.{Rate}
use Rattle.sets25.specs.declared.span_set.SpanSet.{SpanSet}

-- what is shared, if anything is, has times of a day as long as that of a rate
abbrev pub SharesDay : Rate → Option (Rc SpanSet Global) → Type 0
SharesDay rate None = ⊤
SharesDay rate (Some base) = day base.value.rate ≡ day rate

-- the fact has one proof at most
pub SharesDay-prop : (rate : Rate) (base : Option (Rc SpanSet Global)) → IsProp (SharesDay rate base)
SharesDay-prop rate None = Unit-prop
SharesDay-prop rate (Some base) = Coded-set coded_ℕ _ _
