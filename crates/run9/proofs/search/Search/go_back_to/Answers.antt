use Rattle.run9.proofs.Words.{AreMarks, ap, arith, drop, FollowsFrom, GoesBack, last_mark, LeadsFrom, left_none, left_through, length, subst, take, tracked_by, ◌+◌, ◌-◌, ◌≡◌}
use Rattle.run9.proofs.search.Search.go_back_to.Goals as goal
use Rattle.run9.proofs.WayBackSteps.{back-more, back-start, nearest_follows, no_marks, step_from, unmarked}

pub loop-at-init : goal.loop-at-init
loop-at-init c = record {
  within = omega arith;
  marks = rw c.new-marks.ensures.items (no_marks c.args.self.now.lasting c.args.first.now c.args.exchanges.now _);
  back = back-start c.args.self.now.lasting c.args.first.now c.args.exchanges.now c.args.end _ c.requires;
}

pub lead_up-requires : goal.lead_up-requires
lead_up-requires c =
    let one : c.loop-at.at ≡ c.loop-at.at - 1 + 1 = omega (arith, c.loop-at-test.true) in
    let within = c.loop-at.invariant.within in
    record {
      place = omega (arith, c.loop-at-test.true);
      marks = subst (λ n. AreMarks c.args.self.now.lasting c.args.first.now c.args.exchanges.now n c.loop-at.marks.items) one c.loop-at.invariant.marks;
    }

pub step_back_to_nearest-requires : goal.step_back_to_nearest-requires
step_back_to_nearest-requires c =
    let one : c.loop-at.at ≡ c.loop-at.at - 1 + 1 = omega (arith, c.loop-at-test.true) in
    let within = c.loop-at.invariant.within in
    let follows : FollowsFrom c.args.self.now.lasting c.args.first.now (take (c.loop-at.at - 1) c.args.exchanges.now) (tracked_by c.args.first.now (last_mark c.deref.result.now)) =
    rw c.deref.ensures.value (rw c.in_ok-lead_up.ensures.nearest at (nearest_follows c.in_ok-lead_up.ensures.marks)) in
    let w = step_from c.args.self.now.lasting c.args.exchanges.now (c.loop-at.at - 1) c.index-exchanges-at.result (omega (arith, c.loop-at-test.true)) c.index-exchanges-at.is follows
    c.loop-at.state (subst (λ n. LeadsFrom c.args.self.now.lasting c.args.first.now (take n c.args.exchanges.now) c.loop-at.state) one c.loop-at.invariant.back.from) in (w.0, (w.1, w.2))

pub loop-at-preserved : goal.loop-at-preserved
loop-at-preserved c =
    let one : c.loop-at.at ≡ c.loop-at.at - 1 + 1 = omega (arith, c.loop-at-test.true) in
    let within = c.loop-at.invariant.within in
    let follows : FollowsFrom c.args.self.now.lasting c.args.first.now (take (c.loop-at.at - 1) c.args.exchanges.now) (tracked_by c.args.first.now (last_mark c.deref.result.now)) =
    rw c.deref.ensures.value (rw c.in_ok-lead_up.ensures.nearest at (nearest_follows c.in_ok-lead_up.ensures.marks)) in
    let back = subst (λ n. GoesBack c.args.self.now.lasting c.args.first.now.profile (left_through c.args.self.now.lasting c.args.first.now.profile c.args.first.now.going (take n c.args.exchanges.now)) (LeadsFrom c.args.self.now.lasting c.args.first.now (take n c.args.exchanges.now)) (drop n c.args.exchanges.now) c.args.end
    c.args.states.now.items c.loop-at.states.items c.loop-at.state) one c.loop-at.invariant.back in
    record {
      within = omega arith;
      marks = unmarked c.pop.result c.in_ok-lead_up.ensures.marks c.in_ok-lead_up.ensures.nearest c.pop.ensures.items
          (λ low. c.pop.ensures.variant.1 (omega (arith, low, c.deref.ensures.len, ap length c.deref.ensures.value)));
      back = back-more c.args.self.now.lasting c.args.exchanges.now (c.loop-at.at - 1) c.index-exchanges-at.result (omega (arith, c.loop-at-test.true)) c.index-exchanges-at.is follows
          c.args.end c.loop-at.state c.in_ok-state.state _ _ _ back c.in_ok-state.ensures.from c.in_ok-state.ensures.put;
    }

pub returns : goal.returns
returns c =
    let zero : c.loop-at.at ≡ 0 = omega (arith, c.loop-at-test.false) in
    rw (left_none c.args.self.now.lasting c.args.first.now.profile c.args.first.now.going) at (subst (λ n. GoesBack c.args.self.now.lasting c.args.first.now.profile
    (left_through c.args.self.now.lasting c.args.first.now.profile c.args.first.now.going (take n c.args.exchanges.now))
    (LeadsFrom c.args.self.now.lasting c.args.first.now (take n c.args.exchanges.now)) (drop n c.args.exchanges.now) c.args.end
    c.args.states.now.items c.loop-at.states.items c.loop-at.state) zero c.loop-at.invariant.back)
