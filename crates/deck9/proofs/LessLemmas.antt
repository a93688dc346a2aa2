-- A deck that forgets no more, passes through no more modes and does no more by itself has no more runs.
use Rattle.deck9.proofs.Words.{[], arith, arrives, Block, Command, Deck, DeckStep, done, Drift, Ends, Exchange, halts, handled, HasRun, ignored, IsRunFrom, IsState, List, Move}
use Rattle.deck9.proofs.Words.{Moves, Option, passes, Profile, refused, State, ◌∷◌}
use Rattle.deck9.proofs.Words.{Bool, false, Forgets, ForgetsNoMore, forgotten_beside, forgotten_with, head_of, is_nak, true, if◌then◌else◌, Nothing}
use Rattle.deck9.proofs.Words.{Does, Effect, effect_of, Forgotten, ModeSet, Motion, None, Sense, sense_of, Some, unlisted_effect, ℕ}
use Rattle.deck9.specs.declared.sense.Sense.TheVariants as sense
use Rattle.deck9.specs.Deck.{named_beside, unless_sensed}
use Rattle.deck9.specs.Laws.{DoesNoMore, GoesOnNoMore, IsNoMore, IsPartOf, NamedIsPartOf, NamesNoMore, PassesNoMore, SaysNoMore}
use Rattle.deck9.proofs.Words.{goes_on, Going, Hands, inl, inr, loses, on_at_first, refl, runs, ◌≡◌}
use Rattle.deck9.proofs.DriftLemmas.{kept_valid, pairs_from_drift}
use Rattle.deck9.proofs.Words.{after_transport, left_after, listed_effect, named_on, on_after, together, with_named, ◌==◌}
use Rattle.deck9.proofs.GoingLemmas.{both_are_part, goes_on_is_part, left_is_less, left_is_part, left_more, nothing_is_part, part_join, part_self, right_is_part}
use Rattle.deck9.proofs.EffectLemmas.{does_valid}
use Rattle.deck9.proofs.RestLemmas.{step_valid}

drift_valid : (profile : Profile) (on : Going) (s d : State) → IsState profile.rate s → Drift profile on s d → IsState profile.rate d
drift_valid profile on s d valid drift = elim (pairs_from_drift profile on s d drift) [ inl w ↦ kept_valid profile.rate on s d w.0 valid | inr w ↦ w.3 ]

module _ (p : Profile) (less more : Option Deck) (forgets : ForgetsNoMore p less more) (ways : PassesNoMore less more) (acts : GoesOnNoMore less more) where
  -- the same but for what the deck does of its own
  abbrev with_deck : Option Deck → Profile
  with_deck deck = record p { deck = deck }

  move_more : (g h : Going) (s t : State) → IsPartOf g h → Move (with_deck less) g s t → Move (with_deck more) h s t
  move_more g h s t part (arrives e) = arrives e
  move_more g h s t part (passes m way e) = passes m (ways s.goal m way) e
  move_more g h s t part (halts shown e) = halts shown e
  move_more g h s t part (runs m going e) = runs m (part.modes m going) e
  move_more g h s t part (loses r may e) = loses r (part.lost r may) e
  move_more g h s t part (handled allowed on still valid) = handled allowed on still valid

  moves_more : (g h : Going) (us : List State) (s t : State) → IsPartOf g h → Moves (with_deck less) g s us t → Moves (with_deck more) h s us t
  moves_more g h [] s t part same = same
  moves_more g h (u ∷ us) s t part m = (move_more g h s u part m.0, moves_more g h us u t part m.1)

  after_more : (e : Exchange) (g h : Going) → IsPartOf g h → IsPartOf g (on_at_first less) → IsPartOf h (on_at_first more)
      → IsPartOf (goes_on (with_deck less) true e g) (goes_on (with_deck more) true e h)
  after_more e g h part known other = by_hands p.hands refl
    where
      by_hands : (hands : Hands) → p.hands ≡ hands → IsPartOf (goes_on (with_deck less) true e g) (goes_on (with_deck more) true e h)
      by_hands Hands.Allowed is = rw is part
      by_hands Hands.None is = rw is (acts.after true e g h part known)

  step_more : (c : Command) (reply : Block) (s t : State) → IsState p.rate s → DeckStep (with_deck less) c reply s t → DeckStep (with_deck more) c reply s t
  step_more c reply s t valid (refused nak same) = refused nak same
  step_more c reply s t valid (ignored other shown may local same) = ignored other shown may local same
  step_more c reply s t valid (done other shown does) = done other shown (forgets.effects c s t valid does)

  beside_more : (e : Exchange) (refused : Bool) (s t : State) → IsState p.rate s
      → Forgets (with_deck less) (if refused then Nothing else forgotten_beside less e.command (head_of e.block)) s t
      → Forgets (with_deck more) (if refused then Nothing else forgotten_beside more e.command (head_of e.block)) s t
  beside_more e true s t valid same = same
  beside_more e false s t valid forgot = forgets.beside e.command (head_of e.block) s t valid forgot

  runs_more : (g h : Going) (es : List Exchange) (s : State) (ts : List State) → IsPartOf g h → IsPartOf g (on_at_first less) → IsPartOf h (on_at_first more) → IsState p.rate s
      → IsRunFrom (with_deck less) g s es ts → IsRunFrom (with_deck more) h s es ts
  runs_more g h [] s [] part known other valid r = tt
  runs_more g h (e ∷ es) s (t ∷ ts) part known other valid ((u, (d, drift, step), forgot), rest) =
      let still = drift_valid (with_deck less) g s d valid drift in
      let stepped = step_valid (with_deck less) e d u still step in (
        (u, (d, (drift.0, moves_more g h drift.0 s d part drift.1), step_more e.command e.reply d u still step), beside_more e (is_nak e.reply) u t stepped forgot),
        runs_more (goes_on (with_deck less) true e g) (goes_on (with_deck more) true e h) es t ts (after_more e g h part known other)
            (goes_on_is_part (with_deck less) true e g known) (goes_on_is_part (with_deck more) true e h other)
            (does_valid (with_deck less) (Effect.Forget (forgotten_with less e)) u t stepped forgot) rest,
      )
  runs_more g h es s ts part known other valid r = absurd r

  from_first : (es : List Exchange) (s : State) (ts : List State) → IsState p.rate s → IsRunFrom (with_deck less) (on_at_first less) s es ts
      → IsRunFrom (with_deck more) (on_at_first more) s es ts
  from_first es s ts valid r = runs_more (on_at_first less) (on_at_first more) es s ts acts.at_first (part_self (on_at_first less)) (part_self (on_at_first more)) valid r

  pub no_more_runs : (es : List Exchange) → HasRun (with_deck less) es → HasRun (with_deck more) es
  no_more_runs es r = record { first = r.first; is_first = r.is_first; after = r.after; is_run = from_first es r.first r.after r.is_first.0 r.is_run }

  pub no_more_ends : (es : List Exchange) (t : State) → Ends (with_deck less) es t → Ends (with_deck more) es t
  no_more_ends es t r = record {
    first = r.first;
    is_first = r.is_first;
    after = r.after;
    is_run = from_first es r.first r.after r.is_first.0 r.is_run;
    is_last = r.is_last;
  }

-- ---- in a sheet's own words

-- a word that forgets no more leads to no more states, of whichever deck
word_leads : (p : Profile) (one other : Option Deck) (less more : Forgotten) (s t : State) → IsState p.rate s → IsNoMore less more
    → Forgets (record p { deck = one }) less s t → Forgets (record p { deck = other }) more s t
word_leads p one other less more s t valid no_more forgot = let after = does_valid p (Effect.Forget less) s t valid in grind arith

effect_leads : (p : Profile) (one other : Option Deck) (fewer goals : Option ModeSet) (less more : Forgotten) (s t : State) → IsState p.rate s
    → DoesNoMore fewer less goals more
    → Does (record p { deck = one }) (unlisted_effect fewer less) s t → Does (record p { deck = other }) (unlisted_effect goals more) s t
effect_leads p one other None None less more s t valid no_more does = word_leads p one other less more s t valid no_more does
effect_leads p one other None (Some goals) less more s t valid no_more does = grind arith
effect_leads p one other (Some fewer) None less more s t valid no_more does = let after = does_valid p (Effect.KeepOr fewer) s t valid in grind arith
effect_leads p one other (Some fewer) (Some goals) less more s t valid no_more does = grind (arith, no_more)

pub says_no_more : (p : Profile) (less more : Option Deck) → SaysNoMore less more → ForgetsNoMore p less more
says_no_more p less more says = record {
  effects = λ c s t valid does. by_command c s t valid does;
  beside = λ c head s t valid forgot. by_sense (sense_of c) head s t valid forgot;
}
  where
    by_command : (c : Command) (s t : State) → IsState p.rate s → Does (record p { deck = less }) (effect_of less c) s t → Does (record p { deck = more }) (effect_of more c) s t
    by_command (Command.Unlisted head) s t valid does = effect_leads p less more _ _ _ _ s t valid (says.unlisted head) does
    by_command c s t valid does = grind arith

    by_sense : (asked : Sense) (head : ℕ) (s t : State) → IsState p.rate s → Forgets (record p { deck = less }) (unless_sensed asked (named_beside less head)) s t
        → Forgets (record p { deck = more }) (unless_sensed asked (named_beside more head)) s t
    by_sense sense.Nothing head s t valid forgot = word_leads p less more _ _ s t valid (says.beside head) forgot
    by_sense _ head s t valid forgot = forgot

pub goals_no_more : (p : Profile) (goals : ModeSet) (beside all : Forgotten) (s u t : State) → IsState p.rate s → IsNoMore Motion all → IsNoMore beside all
    → Does p (Effect.KeepOr goals) s u → Forgets p beside u t → Forgets p all s t
goals_no_more p goals beside all s u t valid motion no_more does forgot =
    let after = does_valid p (Effect.Forget beside) u t (does_valid p (Effect.KeepOr goals) s u valid does) forgot in grind arith

-- ---- what is named for commands

module _ (less more : Option Deck) (names : NamesNoMore less more) where
  -- what a command leaves that is acknowledged
  left : (c : Command) (head : ℕ) (g h : Going) → IsPartOf g h → IsPartOf g (on_at_first less) → IsPartOf (left_after less c head g) (left_after more c head h)
  left c head g h part known = by_names (named_on less head) (named_on more head) refl refl (names.at c head)
    where
      by_names : (fewer further : Option Going) → named_on less head ≡ fewer → named_on more head ≡ further → NamedIsPartOf (on_at_first less) c fewer further
          → IsPartOf (left_after less c head g) (left_after more c head h)
      by_names None None one other named = rw (one, other) (left_more (listed_effect c) g h part)
      by_names None (Some x) one other (inl nothing) = rw (one, other, nothing g) (nothing_is_part x)
      by_names None (Some x) one other (inr all) =
          rw (one, other) (part_join _ g x (left_is_less (listed_effect c) g) (part_join g (on_at_first less) x known all))
      by_names (Some w) None one other named = absurd named
      by_names (Some w) (Some x) one other named = rw (one, other) named

  -- what goes on where the reply is not known
  with_either : (c : Command) (head : ℕ) (g h : Going) → IsPartOf g h → IsPartOf (with_named (named_on less head) g) (with_named (named_on more head) h)
  with_either c head g h part = by_names (named_on less head) (named_on more head) (names.at c head)
    where
      by_names : (fewer further : Option Going) → NamedIsPartOf (on_at_first less) c fewer further → IsPartOf (with_named fewer g) (with_named further h)
      by_names None None named = part
      by_names None (Some x) named = part_join g h (together h x) part (left_is_part h x)
      by_names (Some w) None named = absurd named
      by_names (Some w) (Some x) named = both_are_part g w (together h x) (part_join g h (together h x) part (left_is_part h x))
          (part_join w x (together h x) named (right_is_part h x))

  pub names_no_more : GoesOnNoMore less more
  names_no_more = record { at_first = names.all; after = after }
    where
      transport : (b : Bool) (e : Exchange) (g h : Going) → IsPartOf g h → IsPartOf g (on_at_first less)
          → IsPartOf (after_transport less b e g) (after_transport more b e h)
      transport true e g h part known = by_reply (is_nak e.reply)
        where
          by_reply : (nak : Bool) → IsPartOf (if nak then g else left_after less e.command (head_of e.block) g) (if nak then h else left_after more e.command (head_of e.block) h)
          by_reply true = part
          by_reply false = left e.command (head_of e.block) g h part known
      transport false e g h part known = with_either e.command (head_of e.block) g h part

      after : (b : Bool) (e : Exchange) (g h : Going) → IsPartOf g h → IsPartOf g (on_at_first less) → IsPartOf (on_after less b e g) (on_after more b e h)
      after b e g h part known = by_group (e.block.group == 2)
        where
          by_group : (group : Bool) → IsPartOf (if group then after_transport less b e g else g) (if group then after_transport more b e h else h)
          by_group true = transport b e g h part known
          by_group false = part
