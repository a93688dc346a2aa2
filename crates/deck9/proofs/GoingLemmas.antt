-- More that may be going on allows no less; and no more goes on than all that is named.
use Rattle.deck9.proofs.Words.{[], all_with, arith, arrives, Bool, Deck, Drift, Effect, either, Exchange, false, Going, halts, handled, has, inl, inr, is_nak, left_after, left_by, List}
use Rattle.deck9.proofs.Words.{listed_effect, loses, Lost, may_lose, Mode, more_lost, Move, Moves, named_on, None, nothing_on, on_after, on_at_first, Option, passes, Profile, refl, Register, runs}
use Rattle.deck9.proofs.Words.{Some, State, subst, sym, Stop, together, true, with_named, ℕ, ◌∙◌, ◌∷◌, ◌≡◌, ◌⊎◌, ◌||◌, head_of, if◌then◌else◌}
use Rattle.deck9.proofs.Words.{after_transport, goes_on, Hands, ◌==◌}
use Rattle.deck9.specs.Laws.{IsPartOf}
use Rattle.deck9.proofs.ModeSetLemmas.{has-or, nothing_has}
use Rattle.std.specs.BTreeMap.{values}
use Rattle.std_collections.specs.Map.{lookup, values_of}
use Rattle.std.specs.Prelude.{cond}
use Rattle.std.specs.Ordering.{is_eq, nat_cmp}

pub part_self : (g : Going) → IsPartOf g g
part_self g = record { modes = λ m h. h; lost = λ r h. h }

pub part_join : (a b c : Going) → IsPartOf a b → IsPartOf b c → IsPartOf a c
part_join a b c p q = record { modes = λ m h. q.modes m (p.modes m h); lost = λ r h. q.lost r (p.lost r h) }

pub nothing_is_part : (g : Going) → IsPartOf nothing_on g
nothing_is_part g = record { modes = λ m h. absurd (let never = nothing_has m in cc); lost = λ r h. absurd (let never = h in cc) }

lost_left : (a b : Lost) (r : Register) → may_lose a r ≡ true → may_lose (more_lost a b) r ≡ true
lost_left a b r h = grind arith

lost_right : (a b : Lost) (r : Register) → may_lose b r ≡ true → may_lose (more_lost a b) r ≡ true
lost_right a b r h = grind arith

lost_both : (a b c : Lost) → ((r : Register) → may_lose a r ≡ true → may_lose c r ≡ true) → ((r : Register) → may_lose b r ≡ true → may_lose c r ≡ true)
    → (r : Register) → may_lose (more_lost a b) r ≡ true → may_lose c r ≡ true
lost_both a b c p q r h = let one = p r in let other = q r in grind arith

has_left : (a b : ℕ) (m : Mode) → has a m ≡ true → has (either (record { 0 = a }) (record { 0 = b })).0 m ≡ true
has_left a b m h = has-or a b m ∙ grind arith

has_right : (a b : ℕ) (m : Mode) → has b m ≡ true → has (either (record { 0 = a }) (record { 0 = b })).0 m ≡ true
has_right a b m h = has-or a b m ∙ grind arith

pub left_is_part : (a b : Going) → IsPartOf a (together a b)
left_is_part a b = record { modes = λ m h. has_left a.modes.0 b.modes.0 m h; lost = λ r h. lost_left a.lost b.lost r h }

pub right_is_part : (a b : Going) → IsPartOf b (together a b)
right_is_part a b = record { modes = λ m h. has_right a.modes.0 b.modes.0 m h; lost = λ r h. lost_right a.lost b.lost r h }

pub both_are_part : (a b c : Going) → IsPartOf a c → IsPartOf b c → IsPartOf (together a b) c
both_are_part a b c p q = record {
  modes = λ m h. by_mode m (p.modes m) (q.modes m) (sym (has-or a.modes.0 b.modes.0 m) ∙ h);
  lost = lost_both a.lost b.lost c.lost p.lost q.lost;
}
  where
    by_mode : (m : Mode) → (has a.modes.0 m ≡ true → has c.modes.0 m ≡ true) → (has b.modes.0 m ≡ true → has c.modes.0 m ≡ true)
        → (has a.modes.0 m || has b.modes.0 m) ≡ true → has c.modes.0 m ≡ true
    by_mode m one other h = grind arith

-- ---- all that is named

all_begins : (g : Going) (gs : List Going) → IsPartOf g (all_with g gs)
all_begins g [] = part_self g
all_begins g (h ∷ hs) = part_join g (together g h) (all_with (together g h) hs) (left_is_part g h) (all_begins (together g h) hs)

-- the value that a map has at a key is one of its values
module _ (is_at : ℕ → Bool) where
  found_is_part : (g : Going) (es : List (ℕ × Going)) (h : Going) → lookup is_at es ≡ Some h → IsPartOf h (all_with g (values_of es))
  found_is_part g [] h found = absurd (let never = found in cc)
  found_is_part g ((k, x) ∷ es) h found = by_test (is_at k) (found_is_part (together g x) es h) found
    where
      by_test : (b : Bool) → (lookup is_at es ≡ Some h → IsPartOf h (all_with (together g x) (values_of es))) → cond b (Some x) (lookup is_at es) ≡ Some h
          → IsPartOf h (all_with (together g x) (values_of es))
      by_test true later same = subst (λ y. IsPartOf y (all_with (together g x) (values_of es))) (let one = same in cc)
          (part_join x (together g x) (all_with (together g x) (values_of es)) (right_is_part g x) (all_begins (together g x) (values_of es)))
      by_test false later more = later more

pub named_is_part : (deck : Option Deck) (head : ℕ) (g : Going) → named_on deck head ≡ Some g → IsPartOf g (on_at_first deck)
named_is_part None head g found = absurd (let never = found in cc)
named_is_part (Some d) head g found = found_is_part (λ k. is_eq (nat_cmp head k)) nothing_on d.acts.entries g found

-- ---- what goes on after an exchange

pub left_is_less : (f : Effect) (g : Going) → IsPartOf (left_by f g) g
left_is_less (Effect.Go Stop) g = record { modes = λ m h. absurd (let never = nothing_has m in cc); lost = λ r h. h }
left_is_less (Effect.Go _) g = nothing_is_part g
left_is_less f g = part_self g

-- what goes on after an exchange is a part of all that is named, where that before it is
transport_is_part : (deck : Option Deck) (b : Bool) (e : Exchange) (g : Going) → IsPartOf g (on_at_first deck) → IsPartOf (after_transport deck b e g) (on_at_first deck)
transport_is_part deck true e g part = by_reply (is_nak e.reply)
  where
    by_name : (named : Option Going) → named_on deck (head_of e.block) ≡ named → IsPartOf (left_after deck e.command (head_of e.block) g) (on_at_first deck)
    by_name (Some h) is = rw is (named_is_part deck (head_of e.block) h is)
    by_name None is = rw is (part_join (left_by (listed_effect e.command) g) g (on_at_first deck) (left_is_less (listed_effect e.command) g) part)

    by_reply : (nak : Bool) → IsPartOf (if nak then g else left_after deck e.command (head_of e.block) g) (on_at_first deck)
    by_reply true = part
    by_reply false = by_name (named_on deck (head_of e.block)) refl
transport_is_part deck false e g part = by_name (named_on deck (head_of e.block)) refl
  where
    by_name : (named : Option Going) → named_on deck (head_of e.block) ≡ named → IsPartOf (with_named named g) (on_at_first deck)
    by_name (Some h) is = both_are_part g h (on_at_first deck) part (named_is_part deck (head_of e.block) h is)
    by_name None is = part

pub after_is_part : (deck : Option Deck) (b : Bool) (e : Exchange) (g : Going) → IsPartOf g (on_at_first deck) → IsPartOf (on_after deck b e g) (on_at_first deck)
after_is_part deck b e g part = by_group (e.block.group == 2)
  where
    by_group : (group : Bool) → IsPartOf (if group then after_transport deck b e g else g) (on_at_first deck)
    by_group true = transport_is_part deck b e g part
    by_group false = part

-- ---- a drift

move_more : (profile : Profile) (less more : Going) (s t : State) → IsPartOf less more → Move profile less s t → Move profile more s t
move_more profile less more s t part (arrives e) = arrives e
move_more profile less more s t part (passes m way e) = passes m way e
move_more profile less more s t part (halts shown e) = halts shown e
move_more profile less more s t part (runs m going e) = runs m (part.modes m going) e
move_more profile less more s t part (loses r may e) = loses r (part.lost r may) e
move_more profile less more s t part (handled allowed switched still valid) = handled allowed switched still valid

moves_more : (profile : Profile) (less more : Going) (us : List State) (s t : State) → IsPartOf less more → Moves profile less s us t → Moves profile more s us t
moves_more profile less more [] s t part same = same
moves_more profile less more (u ∷ us) s t part m = (move_more profile less more s u part m.0, moves_more profile less more us u t part m.1)

pub drift_more : (profile : Profile) (less more : Going) (s t : State) → IsPartOf less more → Drift profile less s t → Drift profile more s t
drift_more profile less more s t part d = (d.0, moves_more profile less more d.0 s t part d.1)

-- ---- what goes on, with hands and without

pub left_more : (f : Effect) (g h : Going) → IsPartOf g h → IsPartOf (left_by f g) (left_by f h)
left_more (Effect.Go Stop) g h part = record { modes = λ m x. x; lost = part.lost }
left_more (Effect.Go _) g h part = part_self nothing_on
left_more f g h part = part

transport_more : (deck : Option Deck) (b : Bool) (e : Exchange) (g h : Going) → IsPartOf g h → IsPartOf (after_transport deck b e g) (after_transport deck b e h)
transport_more deck true e g h part = by_reply (is_nak e.reply)
  where
    by_name : (named : Option Going) → named_on deck (head_of e.block) ≡ named
        → IsPartOf (left_after deck e.command (head_of e.block) g) (left_after deck e.command (head_of e.block) h)
    by_name (Some x) is = rw is (part_self x)
    by_name None is = rw is (left_more (listed_effect e.command) g h part)

    by_reply : (nak : Bool) → IsPartOf (if nak then g else left_after deck e.command (head_of e.block) g) (if nak then h else left_after deck e.command (head_of e.block) h)
    by_reply true = part
    by_reply false = by_name (named_on deck (head_of e.block)) refl
transport_more deck false e g h part = by_name (named_on deck (head_of e.block))
  where
    by_name : (named : Option Going) → IsPartOf (with_named named g) (with_named named h)
    by_name (Some x) = both_are_part g x (together h x) (part_join g h (together h x) part (left_is_part h x)) (right_is_part h x)
    by_name None = part

after_more : (deck : Option Deck) (b : Bool) (e : Exchange) (g h : Going) → IsPartOf g h → IsPartOf (on_after deck b e g) (on_after deck b e h)
after_more deck b e g h part = by_group (e.block.group == 2)
  where
    by_group : (group : Bool) → IsPartOf (if group then after_transport deck b e g else g) (if group then after_transport deck b e h else h)
    by_group true = transport_more deck b e g h part
    by_group false = part

pub goes_on_more : (profile : Profile) (b : Bool) (e : Exchange) (g h : Going) → IsPartOf g h → IsPartOf (goes_on profile b e g) (goes_on profile b e h)
goes_on_more profile b e g h part = by_hands profile.hands refl
  where
    by_hands : (hands : Hands) → profile.hands ≡ hands → IsPartOf (goes_on profile b e g) (goes_on profile b e h)
    by_hands Hands.Allowed is = rw is part
    by_hands Hands.None is = rw is (after_more profile.deck b e g h part)

pub goes_on_is_part : (profile : Profile) (b : Bool) (e : Exchange) (g : Going) → IsPartOf g (on_at_first profile.deck) → IsPartOf (goes_on profile b e g) (on_at_first profile.deck)
goes_on_is_part profile b e g part = by_hands profile.hands refl
  where
    by_hands : (hands : Hands) → profile.hands ≡ hands → IsPartOf (goes_on profile b e g) (on_at_first profile.deck)
    by_hands Hands.Allowed is = rw is part
    by_hands Hands.None is = rw is (after_is_part profile.deck b e g part)

-- where fewer replies are believed, no less goes on
pub fewer_believed : (profile : Profile) (more fewer : Bool) (e : Exchange) (g h : Going) → (fewer ≡ true → more ≡ true) → IsPartOf g h
    → IsPartOf (goes_on profile more e g) (goes_on profile fewer e h)
fewer_believed profile true true e g h le part = goes_on_more profile true e g h part
fewer_believed profile false false e g h le part = goes_on_more profile false e g h part
fewer_believed profile false true e g h le part = absurd (let never = le refl in cc)
fewer_believed profile true false e g h le part = by_hands profile.hands refl
  where
    by_name : (named : Option Going) → named_on profile.deck (head_of e.block) ≡ named
        → IsPartOf (left_after profile.deck e.command (head_of e.block) g) (with_named (named_on profile.deck (head_of e.block)) h)
    by_name (Some x) is = rw is (right_is_part h x)
    by_name None is = rw is (part_join (left_by (listed_effect e.command) g) g h (left_is_less (listed_effect e.command) g) part)

    by_reply : (nak : Bool) → IsPartOf (if nak then g else left_after profile.deck e.command (head_of e.block) g) (with_named (named_on profile.deck (head_of e.block)) h)
    by_reply true = stays (named_on profile.deck (head_of e.block))
      where
        stays : (named : Option Going) → IsPartOf g (with_named named h)
        stays (Some x) = part_join g h (together h x) part (left_is_part h x)
        stays None = part
    by_reply false = by_name (named_on profile.deck (head_of e.block)) refl

    by_group : (group : Bool) → IsPartOf (if group then after_transport profile.deck true e g else g) (if group then after_transport profile.deck false e h else h)
    by_group true = by_reply (is_nak e.reply)
    by_group false = part

    by_hands : (hands : Hands) → profile.hands ≡ hands → IsPartOf (goes_on profile true e g) (goes_on profile false e h)
    by_hands Hands.Allowed is = rw is part
    by_hands Hands.None is = rw is (by_group (e.block.group == 2))

-- a reply that is not believed ends nothing
pub unbelieved_keeps : (profile : Profile) (e : Exchange) (g : Going) → IsPartOf g (goes_on profile false e g)
unbelieved_keeps profile e g = by_hands profile.hands refl
  where
    by_name : (named : Option Going) → IsPartOf g (with_named named g)
    by_name (Some x) = left_is_part g x
    by_name None = part_self g

    by_group : (group : Bool) → IsPartOf g (if group then after_transport profile.deck false e g else g)
    by_group true = by_name (named_on profile.deck (head_of e.block))
    by_group false = part_self g

    by_hands : (hands : Hands) → profile.hands ≡ hands → IsPartOf g (goes_on profile false e g)
    by_hands Hands.Allowed is = rw is (part_self g)
    by_hands Hands.None is = rw is (by_group (e.block.group == 2))
