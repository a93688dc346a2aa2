use Rattle.judge9.proofs.Words.{ap, Err, inl, inr, refl, sym, ◌∙◌}
use Rattle.judge9.proofs.feed.Feed.take_up.Goals as goal
use Rattle.judge9.proofs.TurnSteps.{handed, resumed}

pub returns-then-begins_next_part : goal.returns-then-begins_next_part
returns-then-begins_next_part g c =
    inr (rw (sym c.begins_next_part.ensures ∙ c.if-begins_next_part.true) (λ before gives. record {
      follower = c.begin_anew.new.self;
      knows_nothing = rw c.reply_limit_of.ensures at c.in_ok-begin_anew.ensures;
      with_first = c.begin.ensures before gives;
    }))

pub returns-in_err-first : goal.returns-in_err-first
returns-in_err-first g c =
    let over = c.in_err-first.ensures in
    let knows = rw c.reply_limit_of.ensures at c.in_ok-begin_anew.ensures in
    rw (handed c.from_residual-in_err-first.result c.from_residual-in_err-first.ensures.1)
    (inr (rw (sym c.begins_next_part.ensures ∙ c.if-begins_next_part.false) (resumed over (inr (inr (over.then.0, over.then.1, ap Err over.then.2, knows))))))

pub begin-requires-in-Some-clause-read : goal.begin-requires-in-Some-clause-read
begin-requires-in-Some-clause-read g c =
    let over = rw c.in-Some.is at c.in_ok-first.ensures in (over.mid, over.then.1)

pub returns-in-Some : goal.returns-in-Some
returns-in-Some g c =
    let over = rw c.in-Some.is at c.in_ok-first.ensures in
    let knows = rw c.reply_limit_of.ensures at c.in_ok-begin_anew.ensures in
    inr (rw (sym c.begins_next_part.ensures ∙ c.if-begins_next_part.false) (resumed over (inl (
      c.in-Some.first,
      over.then.0,
      record { follower = c.begin_anew.new.self; knows_nothing = knows; with_first = c.begin-in-Some.ensures over.mid over.then.1 },
    ))))

pub returns-in-None : goal.returns-in-None
returns-in-None g c =
    let over = rw c.in-None.is at c.in_ok-first.ensures in
    let knows = rw c.reply_limit_of.ensures at c.in_ok-begin_anew.ensures in
    inr (rw (sym c.begins_next_part.ensures ∙ c.if-begins_next_part.false) (resumed over (inr (inl (refl, over.then, knows)))))
