-- A deed does what its exchange does, or its command where the reply is not known; and it counts the same presets.
use Rattle.track9.proofs.Words.{Acts, Agrees, arith, DoesOrStays, entry_of, refused, Sense, AreReached, Block, Bool, CanPass, Command, cond_both, counts_after, Deck, deed_exchanged, deed_passed, deed_showing, DeckStep, Drift, DriftsAndGoes, effect_of}
use Rattle.track9.proofs.Words.{Exchanges, false, if◌then◌else◌, inl, inr, is_frugal_deed, is_nak, is_own, no_deed, Option, Passes, Presets, presets_after, Profile, Rate, refl, sense_of, shown_by, State, sym, true, with_command, ◌↔◌, ◌∙◌, ◌≡◌, ◌⊎◌}
use Rattle.deck9.specs.declared.going.Going.{Going}
use Rattle.deck9.specs.declared.effect.Effect.TheVariants as effect
use Rattle.deck9.specs.declared.sense.Sense.TheVariants as sense
use Rattle.track9.specs.Frugal.{is_frugal}
use Rattle.track9.proofs.EntryLemmas.{tells_gives}

-- a command that asks for something of the state has no effect, and a reply to one that asks for nothing shows nothing
asks_or_has_effect : (deck : Option Deck) (c : Command) → (sense_of c ≡ sense.Nothing) ⊎ (effect_of deck c ≡ effect.Nothing)
asks_or_has_effect deck c = grind arith

shows_or_acts : (deck : Option Deck) (c : Command) (reply : Block) → (shown_by c reply ≡ sense.Nothing) ⊎ (effect_of deck c ≡ effect.Nothing)
shows_or_acts deck c reply = elim (asks_or_has_effect deck c) [
  | inl e ↦ inl (cond_both (is_own c reply) (sense_of c) sense.Nothing (λ q. q ≡ sense.Nothing) (λ own. e) (λ other. refl))
  | inr none ↦ inr none
]

-- ---- what it does

-- a NAK does nothing
refused_is : (p : Profile) (c : Command) (reply : Block) (s t : State) → is_nak reply ≡ true → Acts no_deed p s t ↔ DeckStep p c reply s t
refused_is p c reply s t nak = (λ acts. refused nak (grind (arith, acts)), λ step. grind (arith, step))

-- a step whose reply shows something is what it shows
shows_is : (p : Profile) (c : Command) (reply : Block) (q : Sense) (s t : State) → is_nak reply ≡ false → shown_by c reply ≡ q → effect_of p.deck c ≡ effect.Nothing
    → (Agrees p.rate q s reply × (t ≡ s)) ↔ DeckStep p c reply s t
shows_is p c reply q s t ack shown none = grind arith

-- a step whose reply shows nothing is its effect, or none
does_is : (p : Profile) (c : Command) (reply : Block) (s t : State) → is_nak reply ≡ false → shown_by c reply ≡ sense.Nothing
    → DoesOrStays p false (effect_of p.deck c) s t ↔ DeckStep p c reply s t
does_is p c reply s t ack shown = (λ acts. grind (arith, acts), λ step. grind (arith, step))

deed_is : (p : Profile) (c : Command) (reply : Block) (s t : State) → Acts (deed_exchanged p.deck p.rate c reply) p s t ↔ DeckStep p c reply s t
deed_is p c reply s t = by (is_nak reply) refl (shown_by c reply) refl
  where
    acts_not : (q : Sense) → shown_by c reply ≡ q → (q ≡ sense.Nothing → ⊥) → effect_of p.deck c ≡ effect.Nothing
    acts_not q shown some = elim (shows_or_acts p.deck c reply) [ inl e ↦ absurd (some (sym shown ∙ e)) | inr none ↦ none ]

    by : (b : Bool) → is_nak reply ≡ b → (q : Sense) → shown_by c reply ≡ q
        → Acts (if b then no_deed else deed_showing p.deck p.rate c reply q) p s t ↔ DeckStep p c reply s t
    by true nak q shown = refused_is p c reply s t nak
    by false ack (sense.Register r) shown = let tells = tells_gives p.rate reply.bytes.items (entry_of r s) in
        let is = shows_is p c reply (sense.Register r) s t ack shown (acts_not (sense.Register r) shown (λ e. cc)) in
        (λ (gives, e). is.0 (tells.0 gives, e), λ step. let w = is.1 step in (tells.1 w.0, w.1))
    by false ack (sense.Status asked) shown = shows_is p c reply (sense.Status asked) s t ack shown (acts_not (sense.Status asked) shown (λ e. cc))
    by false ack sense.Nothing shown = does_is p c reply s t ack shown

passed_is : (p : Profile) (c : Command) (s t : State) → Acts (deed_passed p.deck c) p s t ↔ CanPass p c s t
passed_is p c s t = grind arith

-- states that are reached by one step are reached by another that is the same
reached_as : (p : Profile) (on : Going) (X Y : State → Type 0) (Goes Other : Profile → State → State → Type 0) → ((s t : State) → Goes p s t ↔ Other p s t)
    → AreReached X (DriftsAndGoes Goes p on) Y → AreReached X (DriftsAndGoes Other p on) Y
reached_as p on X Y Goes Other same reached = (
  λ t i. let w = reached.0 t i in (w.0, w.1, (w.2.0, w.2.1, (same w.2.0 t).0 w.2.2)),
  λ s t i (d, drift, goes). reached.1 s t i (d, drift, (same d t).1 goes),
)

pub deed_reaches : (p : Profile) (on : Going) (c : Command) (reply : Block) (X Y : State → Type 0) → AreReached X (DriftsAndGoes (Acts (deed_exchanged p.deck p.rate c reply)) p on) Y
    → AreReached X (Exchanges p on c reply) Y
deed_reaches p on c reply X Y = reached_as p on X Y (Acts (deed_exchanged p.deck p.rate c reply)) (λ p. DeckStep p c reply) (deed_is p c reply)

pub passed_reaches : (p : Profile) (on : Going) (c : Command) (X Y : State → Type 0) → AreReached X (DriftsAndGoes (Acts (deed_passed p.deck c)) p on) Y → AreReached X (Passes p on c) Y
passed_reaches p on c X Y = reached_as p on X Y (Acts (deed_passed p.deck c)) (λ p. CanPass p c) (passed_is p c)

pub nothing_reaches : (p : Profile) (on : Going) (X Y : State → Type 0) → AreReached X (DriftsAndGoes (Acts no_deed) p on) Y → AreReached X (Drift p on) Y
nothing_reaches p on X Y reached = (
  λ t i. let w = reached.0 t i in (w.0, w.1, grind (arith, w.2)),
  λ s t i drift. reached.1 s t i (t, drift, inl refl),
)

-- ---- what it counts

pub passed_counts : (deck : Option Deck) (c : Command) (n : Presets) → counts_after (deed_passed deck c) n ≡ with_command c n
passed_counts deck c n = grind arith

pub deed_counts : (deck : Option Deck) (rate : Rate) (c : Command) (reply : Block) (b : Bool) (n : Presets)
    → (if b then counts_after (deed_exchanged deck rate c reply) n else n) ≡ presets_after c reply b n
deed_counts deck rate c reply b n = grind (arith, shows_or_acts deck c reply, passed_counts deck c n)

-- ---- and the memory that it takes

pub deed_frugal : (deck : Option Deck) (rate : Rate) (c : Command) (reply : Block) → is_frugal deck c reply ≡ true → is_frugal_deed (deed_exchanged deck rate c reply) ≡ true
deed_frugal deck rate c reply frugal = grind arith
