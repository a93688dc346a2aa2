-- The same records at other times: a block stays a block; so do a tail and an exchange, if the reply still comes in time or the reply limit
-- does not count.
use Rattle.judge9.proofs.Words.{[], ap, append-nil, AreRetimed, arith, BeginsLate, Block, bytes_of, cases_lt, Command, Controller, Counts, Deck, drop, Exchange}
use Rattle.judge9.proofs.Words.{in_reply_of, inl, inr, IsCommand, IsExchange, IsLinked, IsTail, last_apart, last_time, LeftAside, length, length-append, length-take-le}
use Rattle.judge9.proofs.Words.{line_rules, LineByte, LineRules, List, nil_from_length, place_in_command, place_of_command, Profile, refl, reply_limit, ReplyLimit, sym}
use Rattle.judge9.proofs.Words.{take, take-append-drop, terms_of, untimed, whole_long, whole_parts, Wire, ◌++◌, ◌+◌, ◌-◌, ◌<◌, ◌↔◌, ◌∙◌, ◌∷◌, ◌≡◌, ◌≤◌}
use Rattle.block9.specs.Line.{block_len, first_byte, first_time, IsBegun, IsWhole}
use Rattle.block9.proofs.LineLemmas.{linked_push}
use Rattle.block9.specs.Exchange.{IsInTime}

pub retimed_same : (a : List LineByte) → AreRetimed a a
retimed_same [] = tt
retimed_same (r ∷ []) = (refl, refl, tt, tt)
retimed_same (r ∷ q ∷ a) = (refl, refl, (λ one. refl, (λ later. later, λ later. later)), retimed_same (q ∷ a))

pub retimed_bytes : (a b : List LineByte) → AreRetimed a b → bytes_of a ≡ bytes_of b
retimed_bytes [] [] h = refl
retimed_bytes (r ∷ a) (s ∷ b) h = let more = retimed_bytes a b h.3 in let first = h.1 in cc (first, more)
retimed_bytes a b h = absurd h

pub retimed_len : (a b : List LineByte) → AreRetimed a b → length a ≡ length b
retimed_len [] [] h = refl
retimed_len (r ∷ a) (s ∷ b) h = omega (arith, retimed_len a b h.3)
retimed_len a b h = absurd h

pub nothing_retimed : (a b : List LineByte) → AreRetimed a b → a ≡ [] → b ≡ []
nothing_retimed a b h e = nil_from_length b (omega (arith, retimed_len a b h, ap length e))

pub retimed_back : (a b : List LineByte) → AreRetimed a b → AreRetimed b a
retimed_back [] [] h = tt
retimed_back (r ∷ []) (s ∷ []) h = (sym h.0, sym h.1, tt, tt)
retimed_back (r ∷ q ∷ a) (s ∷ p ∷ b) h =
    (sym h.0, sym h.1, (λ one. sym (h.2.0 (h.0 ∙ one ∙ sym h.3.0)), (h.2.1.1, h.2.1.0)), retimed_back (q ∷ a) (p ∷ b) h.3)
retimed_back a b h = absurd (omega (arith, retimed_len a b h))

-- ---- one list after another

pub parted : (a b c d : List LineByte) → length a ≡ length c → AreRetimed (a ++ b) (c ++ d) → AreRetimed a c × AreRetimed b d
parted [] b [] d number h = (tt, h)
parted (r ∷ []) b (s ∷ []) d number h = ((h.0, h.1, tt, tt), h.3)
parted (r ∷ q ∷ a) b (s ∷ p ∷ c) d number h = let more = parted (q ∷ a) b (p ∷ c) d (omega arith) h.3 in ((h.0, h.1, h.2, more.0), more.1)
parted a b c d number h = absurd (omega arith)

-- the parts of the second
pub halves : (a b u : List LineByte) → AreRetimed (a ++ b) u → (c : List LineByte) × (d : List LineByte) × (u ≡ c ++ d) × AreRetimed a c × AreRetimed b d
halves a b u h =
    let size = length-take-le (length a) u (omega (arith, retimed_len (a ++ b) u h, length-append a b)) in
    let (front, back) = parted a b (take (length a) u) (drop (length a) u) (sym size) (rw take-append-drop h) in
    (take (length a) u, drop (length a) u, sym (take-append-drop (length a) u), front, back)

-- as long after these records
abbrev pub SameGap : List LineByte → LineByte → List LineByte → LineByte → Type 0
SameGap a r c s = r.time_us + last_time c ≡ s.time_us + last_time a

-- of the record that comes next
pub next_pace : (a b c d : List LineByte) (r s : LineByte) → 0 < length a → AreRetimed a c → AreRetimed (a ++ r ∷ b) (c ++ s ∷ d)
    → ((w : Wire) → IsLinked w a → r.wire ≡ w → SameGap a r c s) × (last_time a ≤ r.time_us ↔ last_time c ≤ s.time_us)
next_pace (q ∷ []) b (p ∷ []) d r s some is h = (λ w linked wire. h.2.0 (linked ∙ sym wire), h.2.1)
next_pace (q ∷ x ∷ a) b (p ∷ y ∷ c) d r s some is h =
    let more = next_pace (x ∷ a) b (y ∷ c) d r s (omega arith) is.3 h.3 in (λ w linked wire. more.0 w linked.3 wire, more.1)
next_pace a b c d r s some is h = absurd (omega (arith, retimed_len a c is))

-- ---- blocks

pub linked_retimed : (w : Wire) (a b : List LineByte) → AreRetimed a b → IsLinked w a → IsLinked w b
linked_retimed w [] [] h l = l
linked_retimed w (r ∷ []) (s ∷ []) h l = sym h.0 ∙ l
linked_retimed w (r ∷ q ∷ a) (s ∷ p ∷ b) h l =
    let second : q.wire ≡ w = let rest = l.3 in grind arith in
    let gap = h.2.0 (l.0 ∙ sym second) in
    (sym h.0 ∙ l.0, h.2.1.0 l.1, omega (arith, gap, l.2), linked_retimed w (q ∷ a) (p ∷ b) h.3 l.3)
linked_retimed w a b h l = absurd (omega (arith, retimed_len a b h))

pub first_retimed : (a b : List LineByte) → AreRetimed a b → (first_byte a ≡ first_byte b) × (block_len a ≡ block_len b)
first_retimed a b h = (grind arith, grind arith)

pub whole_retimed : (w : Wire) (a b : List LineByte) (k : Block) → AreRetimed a b → IsWhole w a k → IsWhole w b k
whole_retimed w a b k h is = record { linked = linked_retimed w a b h is.linked; spelled = rw (retimed_bytes a b h) at is.spelled; allowed = is.allowed }

pub begun_retimed : (w : Wire) (a b : List LineByte) → AreRetimed a b → IsBegun w a → IsBegun w b
begun_retimed w a b h is =
    let first = first_retimed a b h in
    let number = retimed_len a b h in
    record {
      linked = linked_retimed w a b h is.linked;
      begun = omega (arith, number, is.begun);
      short = omega (arith, number, first.1, is.short);
      allowed = rw first.0 at is.allowed;
    }

-- what the records of a line are judged by, for a deck of a profile
abbrev pub by_limit : Profile → ReplyLimit → LineRules
by_limit profile limit = line_rules (terms_of limit profile)

-- where the reply limit counts, a reply that is begun came in time
abbrev pub IsSoon : LineRules → List LineByte → Type 0
IsSoon rules t = (command reply : List LineByte) (b : Block) (c : Command) → t ≡ command ++ reply → IsCommand rules command b c → IsLinked Deck reply
    → 0 < length reply → rules.reply_limit ≡ Counts → first_time reply ≤ last_time command + reply_limit

pub aside_soon : (profile : Profile) (t : List LineByte) → IsSoon (by_limit profile LeftAside) t
aside_soon profile t command reply b c split is linked some counts = absurd (cc counts)

-- ---- from one limit to another

module _ (profile : Profile) (from to : ReplyLimit) where
  pub command_retimed : (a b : List LineByte) (k : Block) (c : Command) → AreRetimed a b → IsCommand (by_limit profile from) a k c → IsCommand (by_limit profile to) b k c
  command_retimed a b k c h is = record { whole = whole_retimed Controller a b k h is.whole; meaning = is.meaning }

  -- a command, and the reply to it
  pub answer_retimed : (t command reply u : List LineByte) (k : Block) (c : Command) → t ≡ command ++ reply → AreRetimed t u → IsSoon (by_limit profile to) u
      → IsCommand (by_limit profile from) command k c → IsLinked Deck reply → 0 < length reply → IsInTime (by_limit profile from) command reply
      → (asked : List LineByte) × (answered : List LineByte) × (u ≡ asked ++ answered) × AreRetimed command asked × AreRetimed reply answered
      × IsCommand (by_limit profile to) asked k c × IsInTime (by_limit profile to) asked answered
  answer_retimed t command reply u k c split h soon is linked some in_time =
      let m = halves command reply u (rw split at h) in
      let asked = command_retimed command m.0 k c m.3 is in
      let later = later reply m.1 m.0 some m.3 m.4 (rw (split, m.2) at h) in_time.later in
      let in_limit = soon m.0 m.1 k c m.2 asked (linked_retimed Deck reply m.1 m.4 linked) (omega (arith, retimed_len reply m.1 m.4, some)) in
      (m.0, m.1, m.2, m.3, m.4, asked, record { later = later; soon = in_limit })
    where
      later : (reply answered asked : List LineByte) → 0 < length reply → AreRetimed command asked → AreRetimed reply answered
          → AreRetimed (command ++ reply) (asked ++ answered) → last_time command ≤ first_time reply → last_time asked ≤ first_time answered
      later (r ∷ reply) (s ∷ answered) asked some fronts backs both first =
          (next_pace command reply asked answered r s (omega (arith, whole_long Controller command k is.whole)) fronts both).1.0 first
      later reply answered asked some fronts backs both first = absurd (omega (arith, retimed_len reply answered backs))

  pub tail_retimed : (t u : List LineByte) → AreRetimed t u → IsSoon (by_limit profile to) u → IsTail (by_limit profile from) t → IsTail (by_limit profile to) u
  tail_retimed t u h soon (IsTail.nothing e) = IsTail.nothing (nothing_retimed t u h e)
  tail_retimed t u h soon (IsTail.in_command is) = IsTail.in_command (begun_retimed Controller t u h is)
  tail_retimed t u h soon (IsTail.after_command k c is) = IsTail.after_command k c (command_retimed t u k c h is)
  tail_retimed t u h soon (IsTail.in_reply command reply k c e hc hd in_time) =
      let (asked, answered, split, commands, replies, is, now) = answer_retimed t command reply u k c e h soon hc hd.linked hd.begun in_time in
      IsTail.in_reply asked answered k c split is (begun_retimed Deck reply answered replies hd) now

  pub exchange_retimed : (t u : List LineByte) (e : Exchange) → AreRetimed t u → IsSoon (by_limit profile to) u → IsExchange (by_limit profile from) t e
      → (f : Exchange) × (untimed e ≡ untimed f) × IsExchange (by_limit profile to) u f
  exchange_retimed t u e h soon is =
      let long = whole_long Deck is.answered e.reply is.reply in
      let (asked, answered, split, commands, replies, command, now) =
      answer_retimed t is.asked is.answered u e.block e.command is.split h soon is.command is.reply.linked (omega arith) is.in_time in
      let f : Exchange = record e { time_us = first_time u; delay_us = first_time answered - last_time asked } in
      let delay : last_time asked + f.delay_us ≡ first_time answered = omega (arith, now.later) in
      (f, refl, search (split, command, whole_retimed Deck is.answered answered e.reply replies is.reply, now, delay, is.kind, is.valid_time))

-- ---- replies in time

-- the reply of a tail came in time
pub tail_soon : (rules : LineRules) (t : List LineByte) → IsTail rules t → IsSoon rules t
tail_soon rules t tail command reply b c split is linked some counts = by tail
  where
    by : IsTail rules t → first_time reply ≤ last_time command + reply_limit
    by (IsTail.nothing e) = absurd (let same = ap length (sym split ∙ e) in omega (arith, length-append command reply, same))
    by (IsTail.in_command h) = absurd (let other = place_in_command rules Controller t h in let inside = (in_reply_of rules command reply t b c split is some).place in cc)
    by (IsTail.after_command k d h) = absurd (let other = place_of_command rules Controller t k h.whole in let inside = (in_reply_of rules command reply t b c split is some).place in cc)
    by (IsTail.in_reply asked answered k d e h begun soon) =
        let parts = whole_parts Controller asked command answered reply k b h.whole is.whole (sym e ∙ split) in
        rw (parts.0, parts.1) at (soon.soon counts)

-- and still does with one record more that begins no late reply
pub soon_more : (rules : LineRules) (t : List LineByte) (r : LineByte) → IsTail rules t → (rules.reply_limit ≡ Counts → BeginsLate rules t r → ⊥) → IsSoon rules (t ++ r ∷ [])
soon_more rules t r tail early command reply b c split is linked some counts =
    let apart = last_apart rules t command reply r split some in
    by apart.0 apart.1 apart.2
  where
    by : (front : List LineByte) → reply ≡ front ++ r ∷ [] → t ≡ command ++ front → first_time reply ≤ last_time command + reply_limit
    by [] same whole = rw (same, ← (whole ∙ append-nil command)) (elim (cases_lt (last_time t + reply_limit) r.time_us) [
      | inl late ↦ absurd (early counts (record { asked = (b, c, rw (← (whole ∙ append-nil command)) at is); wire = rw same at linked; late = late }))
      | inr soon ↦ soon
    ])
    by (a ∷ rest) same whole =
        let before = (linked_push Deck a rest r).0 (rw same at linked) in
        rw same (tail_soon rules t tail command (a ∷ rest) b c whole is before.0 (omega arith) counts)
