use Rattle.std.proofs.Common.{drop, take, map, ◌++◌, ◌-◌, ◌≡◌, ◌≤◌, false, true}
use Rattle.text9.specs.Form.{filled}
use Rattle.text9.proofs.form.put_form.Given as goal

-- what stands there, with the run that is not yet put and what the rest of the form gives, is the whole; in a place no run is left
abbrev pub invariant-loop-at : goal.invariant-loop-at
invariant-loop-at l =
    (l.text.items ++ (take (l.at - l.from) (drop l.from l.form) ++ filled l.is_inside (drop l.at l.form) l.numbers (map (λ t. t.now) l.texts))
    ≡ l.fn.text.items ++ filled false l.form l.fn.numbers (map (λ t. t.now) l.fn.texts))
    × ((l.from ≤ l.at) × (l.is_inside ≡ true → l.from ≡ l.at))
