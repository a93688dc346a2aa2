-- A right reply to each command in each state, and a step with it.
use Rattle.deck9.proofs.Words.{Deck, Forgotten, forgotten_at, goals_at, listed_effect, ModeSet, Option, unlisted_effect, ◌≢◌}
use Rattle.deck9.proofs.Words.{ap, bytes_read, given_reads, KeepsPanel, label_of, Profile, Rate, SetsInDay, switched, Register}
use Rattle.tc25.proofs.DayLemmas.{label_bytes_low, label_named, some_day}
use Rattle.deck9.proofs.Words.{[], All, All-cons, All-nil, arith, At, Becomes, Block, bytes_of, Change, Clear, Command, datum, day, Does, done, Effect, effect_of, Entry, entry_of, false}
use Rattle.deck9.proofs.Words.{fits, Hands, is_nak, is_reply_time_valid, IsEntry, IsRightReply, IsState, length, List, nat_tests, None, Recall, refl}
use Rattle.deck9.proofs.Words.{RegAudioIn, RegAudioOut, RegIn, RegOut, Reset, SetAt, SetSomewhere, Shows, ShowsStatus, slice_get_past, State, status_of, DeckStep, Tells, true}
use Rattle.deck9.proofs.Words.{with_entry, ℕ, ◌-◌, ◌/◌, ◌<◌, ◌∷◌, ◌≡◌, ◌≤◌}
use Rattle.deck9.proofs.EffectLemmas.{forgets_none}
use Rattle.deck9.proofs.ShowsLemmas.{shows_asked}

-- ---- what a command does

some_entry : (rate : Rate) (c : Change) (old : Entry) → ((t : ℕ) → c ≡ SetAt t → t < day rate) → (new : Entry) × Becomes rate c old new
some_entry rate SetSomewhere old sets = (At 0, (0, some_day rate, refl))
some_entry rate (SetAt t) old sets = (At t, (sets t refl, refl))
some_entry rate Reset old sets = (Clear, refl)
some_entry rate Recall old sets = (Clear, tt)
some_entry rate c old sets = (_, refl)

some_effect : (profile : Profile) (f : Effect) (s : State) → ((r : Register) (t : ℕ) → f ≡ Effect.Change r (SetAt t) → t < day profile.rate)
    → IsState profile.rate s → (t : State) × Does profile f s t
some_effect profile (Effect.Go g) s sets valid = (record s { goal = g }, refl)
some_effect profile (Effect.Change r c) s sets valid =
    let new = some_entry profile.rate c (entry_of r s) (λ t same. sets r t (ap (Effect.Change r) same)) in (with_entry r new.0 s, (new.0, new.1, refl))
some_effect profile (Effect.Panel on) s sets valid = (switched profile.hands on s, refl)
some_effect profile (Effect.Forget g) s sets valid = (s, forgets_none profile g s valid)
some_effect profile f s sets valid = (s, grind arith)

-- ---- what a reply shows

abbrev pub block : ℕ → ℕ → List ℕ → Block
block group code bytes = record { group = group; code = code; bytes = record { items = bytes } }

-- a time whose bytes a register with this entry may give
abbrev told : Entry → ℕ
told Clear = 0
told (At t) = t

tells : (rate : Rate) (e : Entry) → IsEntry rate e → Tells rate e (bytes_of rate (told e))
tells rate Clear valid = tt
tells rate (At t) valid = given_reads rate (bytes_of rate t) t (bytes_read rate t valid)

no_datum : (asked n : ℕ) → datum asked (block 7 0x20 []) n ≡ None
no_datum asked n = let past = slice_get_past {X = ℕ} [] (n - asked / 16) (omega arith) in grind (arith, nat_tests)

-- status data of which there are none agree with each state
no_status : (s : State) (asked : ℕ) → ShowsStatus s (status_of asked (block 7 0x20 []))
no_status s asked = rw (no_datum asked 0, no_datum asked 1, no_datum asked 2, no_datum asked 3) (record { local = tt; shown = tt; registers = tt })

-- ---- bytes

abbrev AreBytes : List ℕ → Type 0
AreBytes bytes = All (λ byte. byte < 256) bytes

pub no_bytes : AreBytes []
no_bytes = All-nil (λ byte. byte < 256)

pub one_byte : (byte : ℕ) (bytes : List ℕ) → byte < 256 → AreBytes bytes → AreBytes (byte ∷ bytes)
one_byte byte bytes = All-cons (λ b. b < 256) byte bytes

four_bytes : (a b c d : ℕ) → a < 256 → b < 256 → c < 256 → d < 256 → AreBytes (a ∷ b ∷ c ∷ d ∷ [])
four_bytes a b c d p q r s = one_byte a (b ∷ c ∷ d ∷ []) p (one_byte b (c ∷ d ∷ []) q (one_byte c (d ∷ []) r (one_byte d [] s no_bytes)))

time_bytes : (rate : Rate) (t : ℕ) → t < day rate → AreBytes (bytes_of rate t)
time_bytes rate t low =
    let bytes = label_bytes_low rate (label_of rate t) (label_named rate t low).1 in
    four_bytes _ _ _ _ bytes.0 bytes.1 bytes.2 bytes.3

told_bytes : (rate : Rate) (e : Entry) → IsEntry rate e → AreBytes (bytes_of rate (told e))
told_bytes rate Clear valid = time_bytes rate 0 (some_day rate)
told_bytes rate (At t) valid = time_bytes rate t valid

-- ---- a right reply

abbrev Reply : Rate → State → Command → Type 0
Reply rate s c = (reply : Block) × IsRightReply rate c reply × (is_nak reply ≡ false) × Shows rate s c reply

made : (rate : Rate) (s : State) (c : Command) (b : Block) → b.group < 16 → length b.bytes.items ≤ 15 → b.code < 256 → All (λ byte. byte < 256) b.bytes.items
    → fits c b ≡ true → is_reply_time_valid rate c b ≡ true → is_nak b ≡ false → Shows rate s c b → Reply rate s c
made rate s c b group data_bytes code bytes kind valid_time no_nak shown = (
  b,
  record { block = record { group = group; data_bytes = data_bytes }; code_byte = code; data_bytes = bytes; kind = kind; valid_time = valid_time },
  no_nak,
  shown,
)

right_reply : (rate : Rate) (s : State) (c : Command) → IsState rate s → Reply rate s c
unfolding fits is_reply_time_valid
right_reply rate s Command.DeviceType valid = made rate s _ (block 1 0x11 (0 ∷ 0 ∷ [])) (omega arith) (omega arith) (omega arith)
    (one_byte 0 (0 ∷ []) (omega arith) (one_byte 0 [] (omega arith) no_bytes)) refl refl refl tt
right_reply rate s (Command.CurrentTimeSense selector) valid = made rate s _ (block 7 0x00 (bytes_of rate 0)) (omega arith) (omega arith) (omega arith)
    (time_bytes rate 0 (some_day rate)) refl refl refl tt
right_reply rate s Command.InDataSense valid = made rate s _ (block 7 0x10 (bytes_of rate (told s.ins))) (omega arith) (omega arith) (omega arith)
    (told_bytes rate s.ins (valid RegIn)) refl refl refl (tells rate s.ins (valid RegIn))
right_reply rate s Command.OutDataSense valid = made rate s _ (block 7 0x11 (bytes_of rate (told s.outs))) (omega arith) (omega arith) (omega arith)
    (told_bytes rate s.outs (valid RegOut)) refl refl refl (tells rate s.outs (valid RegOut))
right_reply rate s Command.AudioInDataSense valid = made rate s _ (block 7 0x12 (bytes_of rate (told s.ains))) (omega arith) (omega arith) (omega arith)
    (told_bytes rate s.ains (valid RegAudioIn)) refl refl refl (tells rate s.ains (valid RegAudioIn))
right_reply rate s Command.AudioOutDataSense valid = made rate s _ (block 7 0x13 (bytes_of rate (told s.aouts))) (omega arith) (omega arith) (omega arith)
    (told_bytes rate s.aouts (valid RegAudioOut)) refl refl refl (tells rate s.aouts (valid RegAudioOut))
right_reply rate s (Command.StatusSense asked) valid = made rate s _ (block 7 0x20 []) (omega arith) (omega arith) (omega arith) no_bytes (grind (arith, nat_tests)) refl
    refl (shows_asked rate s (Command.StatusSense asked) (block 7 0x20 []) (no_status s asked))
right_reply rate s c valid = made rate s c (block 1 0x01 []) (omega arith) (omega arith) (omega arith) no_bytes refl refl refl tt

-- a command that is not listed changes no register in a way of its own
no_change : (goals : Option ModeSet) (f : Forgotten) (r : Register) (x : Change) → unlisted_effect goals f ≢ Effect.Change r x
no_change goals f r x same = grind arith

listed_change : (deck : Option Deck) (c : Command) (r : Register) (x : Change) → effect_of deck c ≡ Effect.Change r x → listed_effect c ≡ Effect.Change r x
listed_change deck (Command.Unlisted head) r x same = absurd (no_change (goals_at deck head) (forgotten_at deck head) r x same)
listed_change deck c r x same = grind arith

pub some_step : (profile : Profile) (c : Command) (s : State) → SetsInDay profile.rate c → IsState profile.rate s
    → (reply : Block) × IsRightReply profile.rate c reply × (is_nak reply ≡ false) × (t : State) × DeckStep profile c reply s t
some_step profile c s sets valid =
    let r = right_reply profile.rate s c valid in
    let t = some_effect profile (effect_of profile.deck c) s (λ r t same. sets r t (listed_change profile.deck c r (SetAt t) same)) valid in
    (r.0, r.1, r.2, t.0, done r.2 r.3 t.1)
