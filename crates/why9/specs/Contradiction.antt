-- Why no run of the deck gives the replies of a capture: some of these replies contradict one another.
use Rattle.std.specs.Prelude.{ℕ, ◌≡◌, ◌<◌, ◌+◌, ◌==◌, ◌&&◌, ◌||◌, nat_lt, not, Bool, true, List, [], ◌∷◌, ◌++◌, length}
use Rattle.std.specs.List.{AllPairs, list_any}
use Rattle.block9.specs.declared.exchange.Exchange.{Exchange}
use Rattle.deck9.specs.declared.profile.Profile.{Profile}
use Rattle.deck9.specs.Contradict.{Contradict, HasBelieving}
use Rattle.deck9.specs.Run.{HasRun}

-- no run gives these replies, and one gives all of them but the last
pub record BreaksAtLast (profile : Profile) (es : List Exchange) : Type 0 where
  pub before : List Exchange
  pub last : Exchange
  pub is_split : es ≡ before ++ last ∷ []
  pub has_run : HasRun profile before
  pub has_none : ¬ HasRun profile es

-- a place is one of these
abbrev pub is_among : List ℕ → ℕ → Bool
is_among places k = list_any (λ p. p == k) places

-- a place is one of these, but not p
abbrev pub is_among_others : List ℕ → ℕ → ℕ → Bool
is_among_others places p k = is_among places k && not (k == p)

-- places of exchanges, counted from 0
pub record IsContradiction (profile : Profile) (es : List Exchange) (places : List ℕ) : Type 0 where
  -- the replies at these places contradict one another
  pub contradict : Contradict profile (is_among places) es
  -- each is needed, and as late as it can be: the others, with all replies after this place, do not
  pub needed : (p : ℕ) → is_among places p ≡ true → HasBelieving profile (λ k. nat_lt p k || is_among_others places p k) es
  -- they ascend, to the place of the last exchange
  pub ascend : AllPairs (λ p q. p < q) places
  pub earlier : List ℕ
  pub last : ℕ
  pub end_with : places ≡ earlier ++ last ∷ []
  pub is_last : last + 1 ≡ length es
