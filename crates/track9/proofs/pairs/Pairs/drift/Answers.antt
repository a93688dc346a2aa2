use Rattle.std.proofs.Common.{length, rules}
use Rattle.std.specs.Int.Bits.{or_zero_r}
use Rattle.track9.specs.Working.Deck.{Cued, Eject, FastForward, Jog, Play, Rec, Rewind, Shuttle, Var}
use Rattle.track9.proofs.Words.{arith, [], by_goal, drifted, drifted_with, false, false_from_ne_true, is_some, List, Mode, ModeSet, refl, shown_with, some_mode, some_pair}
use Rattle.track9.proofs.Words.{Stop, sym, ◌∙◌, ◌∷◌, ◌≡◌}
use Rattle.track9.specs.Working.Acting.{Acted}
use Rattle.track9.proofs.pairs.Pairs.drift.Goals as goal
use Rattle.track9.proofs.EntryLemmas.{pairs_some}
use Rattle.track9.proofs.PartLemmas.{drift_some}

all_ten : (p : List ModeSet) → length p ≡ 10 → by_goal (shown_with p) ≡ p
all_ten (a ∷ b ∷ c ∷ d ∷ e ∷ f ∷ g ∷ h ∷ i ∷ j ∷ []) ten = refl
all_ten _ ten = cc

-- where there is no pair a drift leaves all as it is
none_drifted : (acted : Acted) (p : List ModeSet) → length p ≡ 10 → some_pair p ≡ false → drifted acted p ≡ p
none_drifted acted p ten none = rw (stays Stop, stays Play, stays Rec, stays FastForward, stays Rewind, stays Shuttle, stays Jog, stays Var, stays Cued, stays Eject)
    (all_ten p ten)
  where
    none_shown : (g : Mode) → is_some (shown_with p g) ≡ false
    none_shown g = false_from_ne_true _ (λ some. let m = some_mode (shown_with p g) some in grind (arith, pairs_some p g m.0 m.1))

    stays : (g : Mode) → drifted_with acted p g ≡ shown_with p g
    stays g = grind (arith, none_shown g, or_zero_r (shown_with p g).0)

pub returns-then-some-clause-some : goal.returns-then-some-clause-some
returns-then-some-clause-some c = grind (arith, drift_some c.args.acting.now c.args.self.now.0)

pub returns-else-some-clause-drifted : goal.returns-else-some-clause-drifted
returns-else-some-clause-drifted c = sym (none_drifted c.args.acting.now c.args.self.now.0 (search rules) (sym c.is_some-some.ensures ∙ c.if-some.false))
