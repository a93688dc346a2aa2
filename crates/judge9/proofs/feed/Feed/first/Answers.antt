use Rattle.judge9.proofs.Words.{ap, Err, inl, inr, refl}
use Rattle.judge9.proofs.feed.Feed.first.Goals as goal
use Rattle.judge9.proofs.TurnSteps.{handed, resumed}

pub returns-in_err-first-in-FirstCommand : goal.returns-in_err-first-in-FirstCommand
returns-in_err-first-in-FirstCommand g c = λ limit terms fresh.
    let over = c.in_err-first-in-FirstCommand.ensures in
    rw (c.in-FirstCommand.is, handed c.from_residual.result c.from_residual.ensures.1) (resumed over (inr (inr (over.then.0, over.then.1, ap Err over.then.2, fresh.knows_nothing))))

pub begin-requires-clause-read : goal.begin-requires-clause-read
begin-requires-clause-read g c =
    let over = rw c.in-Some.is at c.in_ok-first-in-FirstCommand.ensures in (over.mid, over.then.1)

pub returns-in-Some : goal.returns-in-Some
returns-in-Some g c = λ limit terms fresh.
    let over = rw c.in-Some.is at c.in_ok-first-in-FirstCommand.ensures in
    rw c.in-FirstCommand.is (resumed over (inl (
      c.in-Some.first,
      over.then.0,
      record { follower = c.args.self.now.follower; knows_nothing = fresh.knows_nothing; with_first = c.begin.ensures over.mid over.then.1 },
    )))

pub returns-in-None : goal.returns-in-None
returns-in-None g c = λ limit terms fresh.
    let over = rw c.in-None.is at c.in_ok-first-in-FirstCommand.ensures in
    rw c.in-FirstCommand.is (resumed over (inr (inl (refl, over.then, fresh.knows_nothing))))
