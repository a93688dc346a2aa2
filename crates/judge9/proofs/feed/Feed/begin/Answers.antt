use Rattle.judge9.proofs.Words.{inl, inr, refl}
use Rattle.judge9.proofs.feed.Feed.begin.Goals as goal

pub returns-in-Some : goal.returns-in-Some
returns-in-Some g c = λ before gives.
    inr (inl (c.in-Some.event, refl, record { gives = gives; took = rw c.in-Some.is at c.in_ok-event.ensures }))

pub returns-in-None : goal.returns-in-None
returns-in-None g c = λ before gives.
    inr (inr (_, record { gives = gives; took = rw c.in-None.is at c.in_ok-event.ensures }, c.next_apart.ensures))
