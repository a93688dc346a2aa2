-- The next event: the judging can go on, has less to do, and tells what the feed came to, where a part goes on, where nothing was
-- judged yet, and after a break.
use Rattle.judge9.proofs.Words.{ap, arith, Break, CanGoOn, ComesFirst, ComesTo, Err, false, Feed, GivesRecord, greatest_limit, History, IfOk, inl, inr, IsMarked, IsToldOf, JudgeError, Judging}
use Rattle.judge9.proofs.Words.{left_of, Next, Ok, OnOk, Option, Profile, Progress, refl, Result, Rows, rows_allowed, Scope, ShowsExchange, Stage, Stands, takes_up_at, TakesUp, Terms, terms_for, Turn}
use Rattle.judge9.proofs.Words.{weight, ℕ, ◌*◌, ◌+◌, ◌-◌, ◌<◌, ◌≡◌, ◌≤◌, ◌⊎◌}
use Rattle.judge9.proofs.Coming.{Arrives}
use Rattle.judge9.proofs.Marking.{told_arrived}
use Rattle.judge9.proofs.Measure.{Behind, IsFirstOn, IsOn, on_begun, on_come, on_up, small}
use Rattle.judge9.proofs.SoFar.{later}
use Rattle.judge9.proofs.Stepping.{refusal_came}

-- ---- whether it can go on

shows_if : {R : Type 0} (k : Feed R) (turn : Turn) → Behind turn k → turn ≡ Turn.Exchange → ShowsExchange k
shows_if k turn b is = let c = (rw is at b.1).1.took in ((c.exchange, c.takes.exchange), c.observes.remains.0 refl)

module _ {R : Type 0} (old new : Judging R) {mid : Feed R} {told : Turn} where
  ready : (turn : Turn) → IsMarked (record old { feed = mid }) turn told new → Behind turn mid → CanGoOn new.stage new.feed
  ready Turn.Exchange m b = let c = b.1.1.took in rw (m.marks.1, m.feed) (c.takes.reason, λ x e. later b.1.1.gives c.takes x e)
  ready (Turn.LateReply r) m b = let c = b.1.1.took.1 in rw (m.marks.1, m.feed) (c.takes.reason, λ x e. later b.1.1.gives c.takes x e)
  ready (Turn.Break x) m b =
      let gives : GivesRecord b.0.rows x.record new.feed.rows = rw (m.feed, b.1.1.took.0) b.1.1.gives in
      elim m.marks.0 [ inl (is, at, late) ↦ rw at (b.0.rows, gives) | inr (is, at, late) ↦ rw at (b.0.rows, gives) ]
  ready Turn.End m b = rw m.marks.1 tt

  shows : (turn : Turn) → IsMarked (record old { feed = mid }) turn told new → Behind turn mid → told ≡ Turn.Exchange → ShowsExchange new.feed
  shows turn m b is = rw m.feed (shows_if mid turn b (grind arith))

  broke : (turn : Turn) (b : Break) → IsMarked (record old { feed = mid }) turn told new → told ≡ Turn.Break b → new.stage ≡ Stage.Broken b
  broke turn b m is = grind arith

  -- ---- how much is left to do

  less : (turn : Turn) → IsMarked (record old { feed = mid }) turn told new → (given : ℕ) → IsOn given turn mid → (n : ℕ) → 4 * (greatest_limit - given) + 1 ≤ n
      → (told ≡ Turn.End) ⊎ (left_of new < n)
  less turn m given on n is = grind (arith, small new.stage)

  -- with the first record of a part
  light : (turn : Turn) → IsMarked (record old { feed = mid }) turn told new → ((b : Break) → turn ≡ Turn.Break b → (takes_up_at b.reason ≡ false) × (b.late ≡ false))
      → weight new.stage ≤ 2
  light (Turn.Break b) m other = grind (arith, other b refl)
  light turn m other = rw m.marks.1 (omega arith)

  less_first : (turn : Turn) → IsMarked (record old { feed = mid }) turn told new → (given : ℕ) → IsFirstOn given turn mid → (n : ℕ) → 4 * (greatest_limit - (given + 1)) + 3 ≤ n
      → (told ≡ Turn.End) ⊎ (left_of new < n)
  less_first turn m given (inl on) n is = less turn m (given + 1) on n (omega (arith, is))
  less_first turn m given (inr (same, few, other)) n is = inr (omega (arith, same, light turn m other, ap (λ (f : Feed R). f.rows.given) m.feed, is))

-- ---- what the feed came to

-- an event came behind some feed, and leaves less to do, whatever is told of it
abbrev pub Moves : {R : Type 0} → Judging R → Result Turn JudgeError → Feed R → Type 0
Moves {R} old came mid =
    IfOk came (λ turn. Behind turn mid × ((told : Turn) (new : Judging R) → IsMarked (record old { feed = mid }) turn told new → (told ≡ Turn.End) ⊎ (left_of new < left_of old)))

module _ {R : Type 0} (old : Judging R) (mid : Feed R) where
  pub going_moves : (came : Result Turn JudgeError) → old.stage ≡ Stage.Going → ComesTo old.feed came mid → Moves old came mid
  going_moves (Ok turn) is come =
      let on = on_come turn come in (on.1, λ told new m. less old new turn m old.feed.rows.given on.0 _ (rw is (omega arith)))
  going_moves (Err x) is come = tt

  pub first_moves : (terms : Terms) (came : Result Turn JudgeError) → old.stage ≡ Stage.Fresh → ComesFirst terms old.scope.beginning old.feed came mid → Moves old came mid
  first_moves terms (Ok turn) is come =
      let on = on_begun terms old.scope.beginning old.feed mid turn come in (on.1, λ told new m. less old new turn m old.feed.rows.given on.0 _ (rw is (omega arith)))
  first_moves terms (Err x) is come = tt

  pub up_moves : (terms : Terms) (came : Result Turn JudgeError) (b : Break) → old.stage ≡ Stage.Broken b → (gives : (before : Progress R) × GivesRecord before b.record old.feed.rows)
      → TakesUp terms b old.feed came mid → Moves old came mid
  up_moves terms (Err x) b is gives up = tt
  up_moves terms (Ok turn) b is gives up =
      let on = on_up terms b old.feed turn mid gives.1 up in (
        on.1,
        λ told new m. elim on.0 [
          | inl here ↦ let two : 2 ≤ weight old.stage = rw is (grind arith) in less old new turn m old.feed.rows.given here _ (omega (arith, two))
          | inr (takes, first) ↦ let three : weight old.stage ≡ 3 = rw (is, takes) refl in less_first old new turn m gives.0.given first _ (omega (arith, gives.1.given, three))
        ],
      )

  -- an exchange that came is shown
  pub moves_shows : (came : Result Turn JudgeError) → Moves old came mid → came ≡ Ok Turn.Exchange → ShowsExchange mid
  moves_shows (Ok turn) moves is = shows_if mid turn moves.0 (cc is)
  moves_shows (Err x) moves is = absurd (cc is)

-- ---- what is told of it

module _ {R : Type 0} (old : Judging R) (mid : Feed R) (new : Judging R) where
  -- the judging can go on, shows an exchange, keeps a break, and has less to do
  pub next_goes : (came result : Result Turn JudgeError) → Moves old came mid → IsToldOf (record old { feed = mid }) came result new
      → OnOk result (CanGoOn new.stage new.feed) × (result ≡ Ok Turn.Exchange → ShowsExchange new.feed)
      × ((b : Break) → result ≡ Ok (Turn.Break b) → new.stage ≡ Stage.Broken b) × IfOk result (λ e. (e ≡ Turn.End) ⊎ (left_of new < left_of old))
  next_goes (Ok turn) (Ok told) moves m = (ready old new turn m moves.0, λ is. shows old new turn m moves.0 (cc is), λ b is. broke old new turn b m (cc is), moves.1 told new m)
  next_goes (Ok turn) (Err x) moves m = absurd m
  next_goes (Err x) result moves m = rw m.0 (tt, λ is. absurd (cc is), λ b is. absurd (cc is), tt)

  pub next_told : {scope : Scope} {profile : Profile} {rows : Option Rows} {h : History} (came result : Result Turn JudgeError) → Stands scope profile rows h old
      → Arrives (rows_allowed scope.extent) (terms_for scope.extent profile) scope.beginning rows h came mid → Moves old came mid → IsToldOf (record old { feed = mid }) came result new
      → Next scope profile rows h result new
  next_told (Ok turn) (Ok told) s a moves m = told_arrived s new mid turn a m (moves.1 told new m)
  next_told (Ok turn) (Err x) s a moves m = absurd m
  next_told (Err x) result s (inl memory) moves m = rw (m.0, m.1) (inl (cc memory))
  next_told (Err x) result s (inr a) moves m = rw (m.0, m.1) (refusal_came a)
