use Rattle.judge9.proofs.Words.{inl, inr, refl}
use Rattle.judge9.proofs.feed.Feed.next.Goals as goal
use Rattle.judge9.proofs.TurnSteps.{turned_by, waits_more}

pub returns-in-Ok-None : goal.returns-in-Ok-None
returns-in-Ok-None g c =
    let ends = rw c.in-Ok-None.field-0-is at c.in-Ok-None.ensures.ended in
    record { front = c.open.self; are_open = c.open.invariant.are_open; turned = record { ends = ends; same_follower = refl } }

pub returns-in-Err : goal.returns-in-Err
returns-in-Err g c =
    record { front = c.open.self; are_open = c.open.invariant.are_open; turned = inr (c.in-Err.error, c.in-Err.ensures.refused, c.from.ensures) }

pub open-preserved : goal.open-preserved
open-preserved g c =
    let given = rw c.in-Ok-Some.field-0-is at c.in-Ok-Some.ensures.given in
    let took = rw c.in-Ok-None-take.field-0-is at c.in-Ok-None-take.ensures in
    waits_more c.open.invariant.are_open (record { gives = given; took = took })

pub returns-in-Ok-Some-take : goal.returns-in-Ok-Some-take
returns-in-Ok-Some-take g c =
    let given = rw c.in-Ok-Some.field-0-is at c.in-Ok-Some.ensures.given in
    let took = rw c.in-Ok-Some-take.field-0-is at c.in-Ok-Some-take.ensures in
    record {
      front = c.open.self;
      are_open = c.open.invariant.are_open;
      turned = turned_by c.open.self _ c.in-Ok-Some.line_byte c.in-Ok-Some-take.event (record { gives = given; took = took });
    }

pub returns-in-Err-take : goal.returns-in-Err-take
returns-in-Err-take g c = record { front = c.open.self; are_open = c.open.invariant.are_open; turned = inl refl }
