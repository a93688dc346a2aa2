-- What the definitions of drifts, steps and runs come to.
use Rattle.deck9.proofs.Words.{[], Agrees, ap, arith, Block, Bool, Command, Does, done, Drift, Effect, effect_of, Entry, Exchange, Exchanges, false, Hands, HasRun, ignored, inl}
use Rattle.deck9.proofs.Words.{inr, IsEntry, IsRunFrom, IsState, List, may_ignore, Moves, nat_tests, refused, Register, Sense, shown_by, State, DeckStep}
use Rattle.std.specs.Prelude.{None, true, ◌≢◌}
use Rattle.deck9.proofs.Words.{forgotten_with, Goes, name_of}
use Rattle.deck9.proofs.Words.{subst, sym, with_entry, ◌++◌, ◌∷◌, ◌≡◌}
use Rattle.deck9.proofs.Words.{Deck, Option, Profile, Rate}
use Rattle.deck9.proofs.Words.{entry_of, Going, KeepsRest, on_after, on_at_first, refl, StaysOrLost}
use Rattle.deck9.specs.Laws.{IsPartOf}
use Rattle.deck9.proofs.DriftLemmas.{drift_from_pairs, pairs_from_drift}
use Rattle.deck9.proofs.GoingLemmas.{after_is_part, drift_more, part_self}
use Rattle.deck9.proofs.RunSearch.{read_panel}

-- ---- hands: the same states with the panel on or off, as LOCAL ENABLE and DISABLE leave it

abbrev with_panel : Bool → State → State
with_panel on s = record s { panel = on }

put_beside : (r : Register) (e : Entry) (on : Bool) (s : State) → with_panel on (with_entry r e s) ≡ with_entry r e (with_panel on s)
put_beside r e on s = grind arith

pub valid_beside : (rate : Rate) (on : Bool) (s : State) → IsState rate s → IsState rate (with_panel on s)
valid_beside rate on s valid = λ r. subst (IsEntry rate) (sym (read_panel r s on)) (valid r)

module _ (rate : Rate) (deck : Option Deck) where
  -- such a deck
  abbrev by_hand : Hands → Profile
  by_hand h = record { rate = rate; hands = h; deck = deck }

  does_beside : (f : Effect) (on : Bool) (s t : State) → Does (by_hand Hands.None) f s t → (off : Bool) × Does (by_hand Hands.Allowed) f (with_panel on s) (with_panel off t)
  does_beside (Effect.Panel new) on s t same = (new, ap (with_panel new) same)
  does_beside f on s t does = (on, grind (arith, read_panel, put_beside, valid_beside rate))

  agrees_beside : (asked : Sense) (on : Bool) (s : State) (reply : Block) → Agrees rate asked s reply → Agrees rate asked (with_panel on s) reply
  agrees_beside asked on s reply shows = grind (arith, read_panel)

  step_beside : (c : Command) (reply : Block) (on : Bool) (s t : State) → DeckStep (by_hand Hands.None) c reply s t
      → (off : Bool) × DeckStep (by_hand Hands.Allowed) c reply (with_panel on s) (with_panel off t)
  step_beside c reply on s t (refused nak same) = (on, refused nak (ap (with_panel on) same))
  step_beside c reply on s t (ignored other shown may local same) =
      (on, ignored other (agrees_beside (shown_by c reply) on s reply shown) may local (ap (with_panel on) same))
  step_beside c reply on s t (done other shown does) =
      let w = does_beside (effect_of deck c) on s t does in
      (w.0, done other (agrees_beside (shown_by c reply) on s reply shown) w.1)

  kept_beside : (going : Going) (on : Bool) (s d : State) → KeepsRest going s d → KeepsRest going (with_panel on s) (with_panel on d)
  kept_beside going on s d k = record {
    registers = λ r. subst (λ e. StaysOrLost going r e (entry_of r (with_panel on d))) (sym (read_panel r s on))
        (subst (StaysOrLost going r (entry_of r s)) (sym (read_panel r d on)) (k.registers r));
    local = k.local;
    panel = refl;
  }

  -- with hands at least as much goes on
  exchange_beside : (less more : Going) (c : Command) (reply : Block) (on : Bool) (s t : State) → IsPartOf less more → Exchanges (by_hand Hands.None) less c reply s t
      → (off : Bool) × Exchanges (by_hand Hands.Allowed) more c reply (with_panel on s) (with_panel off t)
  exchange_beside less more c reply on s t part (d, drift, step) =
      elim (pairs_from_drift (by_hand Hands.None) more s d (drift_more (by_hand Hands.None) less more s d part drift)) [
        | inl w ↦
            let after = step_beside c reply on d t step in
            (after.0, (with_panel on d, drift_from_pairs (by_hand Hands.Allowed) more (with_panel on s) (with_panel on d) (inl (kept_beside more on s d w.0, w.1)), after.1))
        | inr w ↦ absurd (let never = w.0 in cc)
      ]

  goes_beside : (less more : Going) (e : Exchange) (on : Bool) (s t : State) → IsPartOf less more → Goes (by_hand Hands.None) less e s t
      → (off : Bool) × Goes (by_hand Hands.Allowed) more e (with_panel on s) (with_panel off t)
  goes_beside less more e on s t part (u, exchanges, forgets) =
      let first = exchange_beside less more e.command e.reply on s u part exchanges in
      let after = does_beside (Effect.Forget (forgotten_with deck e)) first.0 u t forgets in
      (after.0, (with_panel first.0 u, first.1, after.1))

  -- all that is named goes on with hands, and no more than that without
  run_beside : (on : Going) (es : List Exchange) (panel : Bool) (s : State) (ts : List State) → IsPartOf on (on_at_first deck) → IsRunFrom (by_hand Hands.None) on s es ts
      → (us : List State) × IsRunFrom (by_hand Hands.Allowed) (on_at_first deck) (with_panel panel s) es us
  run_beside on [] panel s [] part r = ([], tt)
  run_beside on (e ∷ es) panel s (t ∷ ts) part r =
      let first = goes_beside on (on_at_first deck) e panel s t part r.0 in
      let rest = run_beside (on_after deck true e on) es first.0 t ts (after_is_part deck true e on part) r.1 in
      (with_panel first.0 t ∷ rest.0, (first.1, rest.1))
  run_beside on es panel s ts part r = absurd r

  pub run_with_hands : (es : List Exchange) → HasRun (by_hand Hands.None) es → HasRun (by_hand Hands.Allowed) es
  run_with_hands es r =
      let w = run_beside (on_at_first deck) es false r.first r.after (part_self (on_at_first deck)) r.is_run in
      record { first = with_panel false r.first; is_first = (valid_beside rate false r.first r.is_first.0, tt); after = w.0; is_run = w.1 }

-- ---- local

pub ignored_is_listed : (c : Command) → may_ignore c ≡ true → name_of c ≢ None
unfolding name_of
ignored_is_listed c h = grind (arith, nat_tests)
