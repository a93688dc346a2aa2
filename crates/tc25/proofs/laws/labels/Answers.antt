-- The label of a frame, by counting those before it.
use Rattle.tc25.proofs.DayLemmas.{counted_frame, day_counted, frame_counted, label_named, named_label}
use Rattle.std.proofs.Common.{sym}
use Rattle.tc25.proofs.laws.labels.Goals as goal

pub returns-clause-named : goal.returns-clause-named
returns-clause-named c = λ rate t low.
    let named = label_named rate t low in
    let counted = frame_counted rate _ t named.0 in
    record { in_day = named.1; is_label = counted.1; before = counted.0 }

pub returns-clause-unique : goal.returns-clause-unique
returns-clause-unique c = λ rate t label names. sym (named_label rate label t names.in_day (counted_frame rate label t names.is_label names.before)).1

pub returns-clause-in_day : goal.returns-clause-in_day
returns-clause-in_day c = λ rate. day_counted rate
