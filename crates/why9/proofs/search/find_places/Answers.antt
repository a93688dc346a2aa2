use Rattle.why9.proofs.Words.{Possible, refl, ◌∙◌}
use Rattle.why9.proofs.QuestionLemmas.{taken_with}
use Rattle.why9.proofs.SearchLemmas.{reached-all, reached-between, reached-first, reached-next}
use Rattle.why9.proofs.search.find_places.Goals as goal

pub loop-place-init : goal.loop-place-init
loop-place-init c = record {
  profile = refl;
  reached = rw (c.in_ok-push.ensures.items, c.new-places.ensures.items, c.requires.going) (reached-first c.args.tracker.now.profile (Possible c.args.tracker.now.states)
      c.args.exchanges.now c.in_ok-place.place c.requires.states c.in_ok-place.ensures.within c.in_ok-place.ensures.contradict
      c.in_ok-place.ensures.after);
}

pub next_place-requires : goal.next_place-requires
next_place-requires c =
    let taken = taken_with (Possible c.loop-place.tracker.states) (Possible c.believe.new.tracker.states) c.loop-place.invariant.profile
    c.in_ok-believe.ensures.reached c.in_ok-believe.ensures.going in
    rw (c.in_ok-believe.ensures.profile, c.loop-place.invariant.profile) (reached-between c.args.tracker.now.profile c.loop-place.tracker.going
    c.believe.new.tracker.going (Possible c.loop-place.tracker.states) (Possible c.believe.new.tracker.states) c.args.exchanges.now c.loop-place.place
    c.index-exchanges-place.result c.loop-place.places.items c.requires.breaks c.index-exchanges-place.is taken c.loop-place.invariant.reached
    c.loop-place-test.true)

pub loop-place-preserved : goal.loop-place-preserved
loop-place-preserved c =
    let profile = c.in_ok-believe.ensures.profile ∙ c.loop-place.invariant.profile in
    let taken = taken_with (Possible c.loop-place.tracker.states) (Possible c.believe.new.tracker.states) c.loop-place.invariant.profile
    c.in_ok-believe.ensures.reached c.in_ok-believe.ensures.going in
    record {
      profile = c.in_ok-place-2.ensures.profile ∙ profile;
      reached = rw c.in_ok-push-2.ensures.items (reached-next c.args.tracker.now.profile c.loop-place.tracker.going c.believe.new.tracker.going
          c.next_place.new.tracker.going (Possible c.loop-place.tracker.states) (Possible c.believe.new.tracker.states) (Possible c.next_place.new.tracker.states)
          c.args.exchanges.now c.loop-place.place c.in_ok-place-2.place c.index-exchanges-place.result c.loop-place.places.items c.index-exchanges-place.is taken
          c.loop-place.invariant.reached c.in_ok-place-2.ensures.low (rw profile at c.in_ok-place-2.ensures.passed)
          (rw profile at c.in_ok-place-2.ensures.next));
    }

pub returns : goal.returns
returns c = reached-all _ _ _ _ _ _ c.loop-place.invariant.reached c.loop-place-test.false
