use Rattle.judge9.proofs.Words.{AreOpen, ForSome, greatest_limit, None, ℕ, ◌-◌, ◌≡◌, ◌≤◌}
use Rattle.judge9.proofs.feed.Feed.next.Given as goal

-- the rows so far end no exchange
abbrev pub invariant-open : goal.invariant-open
invariant-open g l = record {
  are_open : (n : ℕ) × AreOpen n l.fn.self l.self;
  no_reason : l.self.follower.pairer.reason ≡ None;
  in_order : ForSome l.self.follower.pairer.last_time (λ time. time ≤ l.self.rows.last_time);
}

abbrev pub decreases-open : goal.decreases-open
decreases-open g l = greatest_limit - l.self.rows.given
