use Rattle.std.proofs.Common.{length, List, slice_set, [], ◌∷◌, ◌≡◌}
use Rattle.std.specs.Int.Bits.{or_zero_r}
use Rattle.track9.proofs.Words.{either, gone, all_shown, joined, Mode, ModeSet, shown_with, Stop}
use Rattle.deck9.specs.Mode.{index_of}
use Rattle.track9.proofs.pairs.Pairs.go.Goals as goal
use Rattle.std.proofs.Common.{arith}

-- one of ten sets of modes that is joined with all of them
joined_at : (p : List ModeSet) (g : Mode) → length p ≡ 10 → slice_set p (index_of g) (either (shown_with p g) (all_shown p)) ≡ joined p (gone g p)
joined_at (a ∷ b ∷ c ∷ d ∷ e ∷ f ∷ h ∷ i ∷ j ∷ k ∷ []) Stop len = simp or_zero_r
joined_at (a ∷ b ∷ c ∷ d ∷ e ∷ f ∷ h ∷ i ∷ j ∷ k ∷ []) _ len = simp or_zero_r
joined_at _ g len = cc

pub returns-then-may_stay : goal.returns-then-may_stay
returns-then-may_stay = grind (arith, joined_at)
