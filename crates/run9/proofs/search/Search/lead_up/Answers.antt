-- Each turn puts a mark further on: a copy of the last one that goes on.
use Rattle.run9.proofs.Words.{arith, AreMarks, last_mark, place_of, ◌+◌, ◌≡◌}
use Rattle.run9.specs.declared.way_back.Mark.{Mark}
use Rattle.run9.proofs.WayBackSteps.{went_on}
use Rattle.run9.proofs.search.Search.lead_up.Goals as goal

further : (c : goal.In_ok-go_on) → AreMarks c.args.self.now.lasting c.args.first.now c.args.exchanges.now (c.args.at + 1) c.go_on.new.marks.items
    × (place_of (last_mark c.go_on.new.marks.items) ≡ c.last_place-place.result + c.step.result)
further c =
    let m : Mark = record { place = c.last_place-place.result + c.step.result; tracker = c.in_ok-copy.copy } in
    let tracker = rw c.deref-in-loop-at.ensures.value at c.in_ok-copy.ensures in
    went_on c.go_on.new.marks.items m c.last_place-place.result c.loop-at.invariant (rw c.deref.ensures.value at c.last_place-place.ensures)
    tracker (omega (arith, c.step.ensures.some)) (omega (arith, c.step.ensures.within))
    (c.in_ok-go_on.ensures c.loop-at.marks.items m c.in_ok-push.ensures.items)

pub loop-at-smaller : goal.loop-at-smaller
loop-at-smaller c =
    let place = rw c.deref.ensures.value at c.last_place-place.ensures in
    omega (arith, place, (further c).1, c.step.ensures.some, c.step.ensures.within)

pub loop-at-preserved : goal.loop-at-preserved
loop-at-preserved c = (further c).0
