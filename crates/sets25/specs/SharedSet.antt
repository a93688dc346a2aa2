-- The members of a `SharedSet`.
use Rattle.std.specs.Prelude.{Option, None, Some}
use Rattle.std.specs.FinSet as set
use Rattle.std.specs.declared.alloc.Global.{Global}
use Rattle.std.specs.declared.rc.Rc.{Rc}
use Rattle.sets25.specs.SpanSet as spans
use Rattle.sets25.specs.Times.{Times}
use Rattle.sets25.specs.declared.shared_set.SharedSet.{SharedSet}
use Rattle.sets25.specs.declared.span_set.SpanSet.{SpanSet}

-- the members of what is shared, if anything is
abbrev pub shared_members : Option (Rc SpanSet Global) → Times
shared_members None = set.empty
shared_members (Some base) = spans.members_of base.value

-- those that are shared, and its own
abbrev pub members_of : SharedSet → Times
members_of s = set.union (shared_members s.base) (spans.members_of s.own)
