-- The same records at other times: which rules one record more breaks, and for which reason; and runs of exchanges that came at other times.
use Rattle.judge9.proofs.Words.{[], ap, append_assoc, Applies, AreRetimed, arith, BeginsLate, Block, Breaks, cases_lt, Command, Controller, Counts, Cut, cut_once, Deck}
use Rattle.judge9.proofs.Words.{Ends, Exchange, first_holds, goes_on, HasRun, Holds, in_parts, in_reply_of, inl, inr, IsFirst, IsOk, IsTail, last_time, last_time-append}
use Rattle.judge9.proofs.Words.{LeftAside, length, length_push, line_rules, LineByte, LineRules, List, map, order, place_in_command, place_of_command, Profile, Reason}
use Rattle.judge9.proofs.Words.{refl, reply_limit, ReplyLimit, some_end, State, sym, tail_by_kept, Terms, terms_of, untimed, whole_long, Wire, ◌++◌, ◌+◌, ◌<◌, ◌∙◌, ◌∷◌}
use Rattle.judge9.proofs.Words.{on_at_first, true, ◌≡◌, ◌≤◌, ◌⊎◌}
use Rattle.block9.specs.Reason.{EndsReply, IsAnswered, IsOpen as IsOpenBlock, IsWholeCommand}
use Rattle.judge9.proofs.RetimedRecords.{IsSoon, SameGap, answer_retimed, aside_soon, begun_retimed, by_limit, command_retimed, exchange_retimed, first_retimed}
use Rattle.judge9.proofs.RetimedRecords.{next_pace, nothing_retimed, parted, retimed_back, retimed_bytes, retimed_len, soon_more, tail_soon, whole_retimed}
use Rattle.block9.proofs.CutLemmas.{kept_no_fault}
use Rattle.deck9.specs.Run.{IsRunFrom}
use Rattle.deck9.specs.declared.going.Going.{Going}
use Rattle.std.proofs.lemmas.List.{map-append}
use Rattle.judge9.proofs.CutSteps.{cut-exchange}
use Rattle.judge9.proofs.LawLemmas.{cut_tail, kept_of}
use Rattle.block9.proofs.ReasonLemmas as block

-- ---- one record more

pub record Next (t : List LineByte) (r : LineByte) (u : List LineByte) (s : LineByte) : Type 0 where
  pub tails : AreRetimed t u
  pub both : AreRetimed (t ++ r ∷ []) (u ++ s ∷ [])
  pub wire : r.wire ≡ s.wire
  pub byte : r.byte ≡ s.byte

pub next_of : (t u : List LineByte) (r s : LineByte) (records others : List LineByte) → length t ≡ length u → AreRetimed (t ++ r ∷ records) (u ++ s ∷ others) → Next t r u s
next_of t u r s records others number h =
    let parts = parted t (r ∷ records) u (s ∷ others) number h in
    let both = (parted (t ++ r ∷ []) records (u ++ s ∷ []) others (omega (arith, length_push t r, length_push u s))
    (rw (append_assoc t (r ∷ []) records, append_assoc u (s ∷ []) others) h)).0 in
    record { tails = parts.0; both = both; wire = parts.1.0; byte = parts.1.1 }

pub next_back : (t u : List LineByte) (r s : LineByte) → Next t r u s → Next u s t r
next_back t u r s n = record { tails = retimed_back t u n.tails; both = retimed_back (t ++ r ∷ []) (u ++ s ∷ []) n.both; wire = sym n.wire; byte = sym n.byte }

-- ---- from one limit to another

-- where the reason is the gap, the record is of the wire whose turn it is: if the other sends inside a block, an earlier rule is broken
abbrev Clear : (Reason → Type 0) → Reason → Type 0
Clear holds y = y ≡ Reason.ByteGap → (holds Reason.ReplyInsideCommand → ⊥) × (holds Reason.CommandInsideReply → ⊥)

module _ (profile : Profile) (from to : ReplyLimit) where
  -- a late reply is late whether or not the limit counts
  pub late_alike : (t : List LineByte) (r : LineByte) → BeginsLate (by_limit profile from) t r → BeginsLate (by_limit profile to) t r
  late_alike t r h = record { asked = (h.asked.0, h.asked.1, record { whole = h.asked.2.whole; meaning = h.asked.2.meaning }); wire = h.wire; late = h.late }

  module _ (t u : List LineByte) (r s : LineByte) (n : Next t r u s) (soon : IsSoon (by_limit profile to) u) where
    answered_retimed : (c : Command) (reply : List LineByte) → (is : IsAnswered (by_limit profile from) t c reply) → (back : List LineByte)
        × (answer : IsAnswered (by_limit profile to) u c back) × (answer.block ≡ is.block) × AreRetimed reply back × AreRetimed (reply ++ r ∷ []) (back ++ s ∷ [])
    answered_retimed c reply is =
        let (asked, answered, split, commands, replies, command, now) =
        answer_retimed profile from to t is.command reply u is.block c is.split n.tails soon is.is_command is.begun.linked is.begun.begun is.in_time in (
          answered,
          search (split, command, begun_retimed Deck reply answered replies is.begun, now),
          refl,
          replies,
          (parted is.command (reply ++ r ∷ []) asked (answered ++ s ∷ []) (retimed_len is.command asked commands)
              (rw (is.split, split, append_assoc is.command reply (r ∷ []), append_assoc asked answered (s ∷ [])) at n.both)).1,
        )

    open_retimed : (records : List LineByte) → IsOpenBlock (by_limit profile from) t records
        → (back : List LineByte) × IsOpenBlock (by_limit profile to) u back × AreRetimed records back
    open_retimed records (inl is) = let same = rw is.0 at n.tails in (u, inl (refl, begun_retimed Controller records u same is.1), same)
    open_retimed records (inr (c, is)) = let m = answered_retimed c records is in (m.0, inr (c, m.1), m.3)

    command_open : IsWholeCommand (by_limit profile from) t → IsWholeCommand (by_limit profile to) u
    command_open is = (is.0, is.1, command_retimed profile from to t u is.0 is.1 n.tails is.2)

    -- the last record of a reply
    ends_retimed : (b : Block) (c : Command) (reply : Block) → EndsReply (by_limit profile from) t r b c reply → EndsReply (by_limit profile to) u s b c reply
    ends_retimed b c reply (records, is, same, whole) =
        let m = answered_retimed c records is in (m.0, m.1, m.2 ∙ same, whole_retimed Deck (records ++ r ∷ []) (m.0 ++ s ∷ []) reply m.4 whole)

    -- a command that is complete, after which the controller sends
    sent_gap : IsWholeCommand (by_limit profile from) t → r.wire ≡ Controller → SameGap t r u s
    sent_gap (b, c, is) wire = (next_pace t [] u [] r s (omega (arith, whole_long Controller t b is.whole)) n.tails n.both).0 Controller is.whole.linked wire

    open_gap : (records : List LineByte) → Clear (λ y. Holds (by_limit profile from) y t r) Reason.ByteGap → IsOpenBlock (by_limit profile from) t records → SameGap t r u s
    open_gap records turn (inl is) = by r.wire refl
      where
        by : (w : Wire) → r.wire ≡ w → SameGap t r u s
        by Deck wire = absurd ((turn refl).0 (rw (sym is.0) at is.1, wire))
        by Controller wire =
            (next_pace t [] u [] r s (omega (arith, is.1.begun, ap length is.0)) n.tails n.both).0 Controller (rw (sym is.0) at is.1.linked) wire
    open_gap records turn (inr (c, is)) = by r.wire refl
      where
        by : (w : Wire) → r.wire ≡ w → SameGap t r u s
        by Controller wire = absurd ((turn refl).1 ((c, records, is), wire))
        by Deck wire =
            let m = answered_retimed c records is in
            let some = is.begun.begun in
            let gap = (next_pace records [] m.0 [] r s some m.3 m.4).0 Deck is.begun.linked wire in
            let last = ap last_time is.split ∙ last_time-append (by_limit profile from) is.command records some in
            let back = ap last_time m.1.split ∙ last_time-append (by_limit profile from) m.1.command m.0 m.1.begun.begun in
            omega (arith, gap, last, back)

    pub holds_retimed : (Holds (by_limit profile from) Reason.LateReply t r → ⊥) → (y : Reason) → Clear (λ x. Holds (by_limit profile from) x t r) y
        → Holds (by_limit profile from) y t r → Holds (by_limit profile to) y u s
    holds_retimed early Reason.ReplyWithoutCommand turn h = (nothing_retimed t u n.tails h.0, sym n.wire ∙ h.1)
    holds_retimed early Reason.ReplyInsideCommand turn h = (begun_retimed Controller t u n.tails h.0, sym n.wire ∙ h.1)
    holds_retimed early Reason.CommandBeforeReply turn h = (command_open h.0, sym n.wire ∙ h.1, omega (arith, sent_gap h.0 h.1, h.2))
    holds_retimed early Reason.NoReply turn h = (command_open h.0, sym n.wire ∙ h.1, omega (arith, sent_gap h.0 h.1, h.2))
    holds_retimed early Reason.CommandInsideReply turn h = let m = answered_retimed h.0.0 h.0.1 h.0.2 in ((h.0.0, m.0, m.1), sym n.wire ∙ h.1)
    holds_retimed early Reason.LateReply turn h = absurd (early h)
    holds_retimed early Reason.ByteGap turn ((records, is), h) =
        let m = open_retimed records is in ((m.0, m.1), omega (arith, open_gap records turn is, h))
    holds_retimed early Reason.WrongGroup turn h = (
      elim h.0 [
        | inl nil ↦ inl (nothing_retimed t u n.tails nil)
        | inr whole ↦ inr (command_open whole)
      ],
      rw (n.wire, n.byte) at h.1,
    )
    holds_retimed early Reason.WrongSum turn (records, is, count, wrong) =
        let m = open_retimed records is in
        (m.0, m.1, rw (retimed_len records m.0 m.2, (first_retimed records m.0 m.2).1) at count, rw (n.byte, retimed_bytes records m.0 m.2) at wrong)
    holds_retimed early Reason.InvalidCommandTime turn (b, whole, meant) = (b, whole_retimed Controller (t ++ r ∷ []) (u ++ s ∷ []) b n.both whole, meant)
    holds_retimed early Reason.WrongReply turn (b, c, reply, ends, wrong) = (b, c, reply, ends_retimed b c reply ends, wrong)
    holds_retimed early Reason.InvalidReplyTime turn (b, c, reply, ends, wrong) = (b, c, reply, ends_retimed b c reply ends, wrong)
    holds_retimed early Reason.NoRun turn h = absurd h

-- ---- a late reply

-- whether a late reply begins with it
pub late_or_not : (rules : LineRules) (t : List LineByte) (r : LineByte) → IsTail rules t → BeginsLate rules t r ⊎ (BeginsLate rules t r → ⊥)
late_or_not rules t r (IsTail.nothing e) = inr (λ late. omega (arith, ap length e, whole_long Controller t late.asked.0 late.asked.2.whole))
late_or_not rules t r (IsTail.in_command h) =
    inr (λ late. let here = place_in_command rules Controller t h in let there = place_of_command rules Controller t late.asked.0 late.asked.2.whole in cc)
late_or_not rules t r (IsTail.in_reply command reply b c e hc hd soon) = inr (λ late.
    let here = (in_reply_of rules command reply t b c e hc hd.begun).place in let there = place_of_command rules Controller t late.asked.0 late.asked.2.whole in cc)
late_or_not rules t r (IsTail.after_command b c h) = by r.wire refl (cases_lt (last_time t + reply_limit) r.time_us)
  where
    by : (w : Wire) → r.wire ≡ w → (last_time t + reply_limit < r.time_us) ⊎ (r.time_us ≤ last_time t + reply_limit) → BeginsLate rules t r ⊎ (BeginsLate rules t r → ⊥)
    by Controller wire time = inr (λ late. let other = late.wire in cc)
    by Deck wire (inl late) = inl (record { asked = (b, c, h); wire = wire; late = late })
    by Deck wire (inr soon) = inr (λ late. omega (arith, late.late, soon))

-- ---- exchanges with the same commands and replies

-- they have the same runs
run_untimed : (profile : Profile) (on : Going) (s : State) (es : List Exchange) (ts : List State) → IsRunFrom profile on s es ts ≡ IsRunFrom profile on s (map untimed es) ts
run_untimed profile on s (e ∷ es) (t ∷ ts) = rw (run_untimed profile (goes_on profile true e on) t es ts)
run_untimed profile on s es ts = refl

-- and are known to end in the same states
pub ends_untimed : (profile : Profile) (es fs : List Exchange) → map untimed es ≡ map untimed fs → (s : State) → Ends profile es s → Ends profile fs s
ends_untimed profile es fs h s ends =
    let on = on_at_first profile.deck in search (rw (run_untimed profile on ends.first es ends.after, h, ← (run_untimed profile on ends.first fs ends.after)) at ends.is_run)

pub run_retimed : (profile : Profile) (es fs : List Exchange) → map untimed es ≡ map untimed fs → HasRun profile es → HasRun profile fs
run_retimed profile es fs h run =
    let last = (some_end profile es).1 run in (some_end profile fs).0 (last.0, ends_untimed profile es fs h last.0 last.1)

pub untimed_joined : (es fs ds gs : List Exchange) → map untimed es ≡ map untimed fs → map untimed ds ≡ map untimed gs → map untimed (es ++ ds) ≡ map untimed (fs ++ gs)
untimed_joined es fs ds gs h k = map-append untimed es ds ∙ cc (h, k) ∙ sym (map-append untimed fs gs)

-- ---- the reason

-- the first that holds is the first of others that hold where they do
first_same : (holds more : Reason → Type 0) (x : Reason) → ((y : Reason) → Clear holds y → holds y → more y) → ((y : Reason) → Clear more y → more y → holds y)
    → IsFirst holds order x → IsFirst more order x
first_same holds more x there back is = grind (arith, there, back)

-- with a record to which a reason applies they do not keep the rules
reason_breaks : (terms : Terms) (q : List LineByte) (fs : List Exchange) (u : List LineByte) (s : LineByte) (y : Reason) → Cut (line_rules terms) q fs u → Applies terms fs u s y
    → ¬ IsOk terms (q ++ s ∷ [])
reason_breaks terms q fs u s Reason.NoRun cut (e, is, none) ok =
    none (rw (cut_once (line_rules terms) (q ++ s ∷ []) ok.exchanges (fs ++ e ∷ []) ok.tail [] ok.cut (cut-exchange (line_rules terms) q fs u s e cut is)).0 at ok.run)
reason_breaks terms q fs u s y cut h ok =
    block.none_holds (line_rules terms) u s (kept_no_fault (line_rules terms) u s (cut_tail (line_rules terms) q fs u cut)
    (tail_by_kept (line_rules terms) q fs u (s ∷ []) cut (kept_of terms (q ++ s ∷ []) ok))) y h

module _ (profile : Profile) (from to : ReplyLimit) where
  applies_retimed : (es fs : List Exchange) (t u : List LineByte) (r s : LineByte) → map untimed es ≡ map untimed fs → Next t r u s → IsSoon (by_limit profile to) u
      → IsSoon (by_limit profile to) (u ++ s ∷ []) → (Holds (by_limit profile from) Reason.LateReply t r → ⊥) → (y : Reason)
      → Clear (λ x. Holds (by_limit profile from) x t r) y → Applies (terms_of from profile) es t r y → Applies (terms_of to profile) fs u s y
  applies_retimed es fs t u r s same n soon came early Reason.NoRun turn (e, is, none) =
      let m = exchange_retimed profile from to (t ++ r ∷ []) (u ++ s ∷ []) e n.both came is in
      (m.0, m.2, λ run. none (run_retimed profile (fs ++ m.0 ∷ []) (es ++ e ∷ []) (sym (untimed_joined es fs (e ∷ []) (m.0 ∷ []) same (ap (λ x. x ∷ []) m.1))) run))
  applies_retimed es fs t u r s same n soon came early y turn h = holds_retimed profile from to t u r s n soon early y turn h

-- the break, where the second is not late or the limit is left aside
pub break_retimed : (profile : Profile) (to : ReplyLimit) {p t u : List LineByte} {r s : LineByte} {reason : Reason} (es : List Exchange) (q : List LineByte) (fs : List Exchange)
    → Cut (by_limit profile LeftAside) p es t → Cut (by_limit profile to) q fs u → map untimed es ≡ map untimed fs → Next t r u s
    → (to ≡ Counts → BeginsLate (by_limit profile to) u s → ⊥) → Breaks (in_parts profile) p r reason → Breaks (terms_of to profile) q s reason
break_retimed profile to {p = p} {t = t} {u = u} {r = r} {s = s} {reason = reason} es q fs cut other same n early breaks =
    let own = cut_once (by_limit profile LeftAside) p breaks.exchanges es breaks.tail t breaks.cut cut in
    let run = rw own.0 at breaks.run in
    let is = rw (own.0, own.1) at breaks.is_reason in
    let tail = cut_tail (by_limit profile to) q fs u other in
    let came = soon_more (by_limit profile to) u s tail early in
    let there = applies_retimed profile LeftAside to es fs t u r s same n (tail_soon (by_limit profile to) u tail) came (λ h. absurd (cc h.0)) in
    let back = applies_retimed profile to LeftAside fs es u t s r (sym same) (next_back t u r s n) (aside_soon profile t) (aside_soon profile (t ++ r ∷ [])) (λ h. early h.0 h.1) in
    let first = first_same (Applies (in_parts profile) es t r) (Applies (terms_of to profile) fs u s) reason there back is in
    let not_ok = reason_breaks (terms_of to profile) q fs u s reason other (first_holds (Applies (terms_of to profile) fs u s) order reason first) in
    record { exchanges = fs; tail = u; cut = other; run = run_retimed profile es fs same run; not_ok = not_ok; is_reason = first }
