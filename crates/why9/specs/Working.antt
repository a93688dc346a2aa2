-- What the clauses of the search cite.
use Rattle.std.specs.Prelude.{ℕ, ◌≡◌, ◌<◌, ◌≤◌, ◌+◌, ◌↔◌, ◌++◌, nat_le, Bool, false, List, length, drop}
use Rattle.block9.specs.declared.exchange.Exchange.{Exchange}
use Rattle.deck9.specs.declared.going.Going.{Going}
use Rattle.deck9.specs.declared.profile.Profile.{Profile}
use Rattle.deck9.specs.declared.state.State.{State}
use Rattle.deck9.specs.Contradict.{IsBelievingFrom}

-- some run of these exchanges from one of these states, where this may be going on, believes the replies at these places, counted
-- from 0
abbrev pub HasBelievingFrom : Profile → Going → (State → Type 0) → (ℕ → Bool) → List Exchange → Type 0
HasBelievingFrom profile on X is_believed es = (s : State) × X s × (ts : List State) × IsBelievingFrom profile on is_believed s es ts

-- the same of the exchanges from the place `low` on, where places are counted from the first of all exchanges
abbrev pub HasBelievingFromPlace : Profile → Going → (State → Type 0) → ℕ → (ℕ → Bool) → List Exchange → Type 0
HasBelievingFromPlace profile on X low is_believed es = HasBelievingFrom profile on X (λ k. is_believed (low + k)) (drop low es)

-- passing these exchanges leads from the states X to the states Y, and from what may be going on before them to what may be
-- behind them: a run from X that believes none of their replies, whatever comes after them, goes on from Y
pub record ArePassed (profile : Profile) (before : Going) (X : State → Type 0) (es : List Exchange) (behind : Going) (Y : State → Type 0) : Type 0 where
  pub goes : (b : ℕ → Bool) (rest : List Exchange) → ((k : ℕ) → k < length es → b k ≡ false)
      → HasBelievingFrom profile before X b (es ++ rest) ↔ HasBelievingFrom profile behind Y (λ k. b (length es + k)) rest

-- the same of the exchanges from the place `low` up to another
pub record ArePassedTo (profile : Profile) (es : List Exchange) (low : ℕ) (before : Going) (X : State → Type 0) (place : ℕ) (behind : Going) (Y : State → Type 0) : Type 0 where
  pub goes : (b : ℕ → Bool) → ((k : ℕ) → low ≤ k → k < place → b k ≡ false)
      → HasBelievingFromPlace profile before X low b es ↔ HasBelievingFromPlace profile behind Y place b es

-- the next place is between these: no run from the states X, which everything before `low` leads to, with what may then be going
-- on, believes the replies from `low` on, and one believes those from `high` on
pub record IsBetween (profile : Profile) (on : Going) (X : State → Type 0) (es : List Exchange) (low high : ℕ) : Type 0 where
  pub low_high : low < high
  pub high_end : high ≤ length es
  pub contradict : ¬ HasBelievingFromPlace profile on X low (nat_le low) es
  pub after : HasBelievingFromPlace profile on X low (nat_le high) es
