-- What was written is a first part of the whole text of the report.
use Rattle.judge9.proofs.Words.{[], ap, append-nil, append_assoc, Appends, AppendsPart, AreEvents, AreParts, AreTextsOf, arith, Beginning, BrokenPart, by_verdict, CaptureError, counting, Ending}
use Rattle.judge9.proofs.Words.{Err, Event, Extent, first_part, History, inl, inr, IsEnding, IsEndingOf, IsEventText, IsOk, IsPart, IsPartText, IsText, IsToTheEnd, judged_from, JudgeError}
use Rattle.judge9.proofs.Words.{last_line, length, length-append, length_push, line_of, LineByte, List, nil_from_length, None, Ok, Option, Part, Profile, refl, Rest, rest_after, Result, Rows, Some}
use Rattle.judge9.proofs.Words.{subst, sym, take-length, Told, told_in, ToldSoFar, Verdict, View, Written, ℕ, ◌++◌, ◌+◌, ◌∙◌, ◌∷◌, ◌≡◌, ◌⊎◌}
use Rattle.judge9.proofs.LawLemmas.{no_longer, part_ok, shorter}
use Rattle.judge9.proofs.PartLaws.{first_no, none_breaks, one_first, same_part}
use Rattle.judge9.proofs.PartSteps.{judged_more}
use Rattle.judge9.proofs.Told.{told_counting}
use Rattle.judge9.proofs.TextLemmas.{break_text_once, texts_once, texts_start}
use Rattle.judge9.proofs.Verdicts.{judged_broken, judged_part, up_to_break}

-- ---- the parts that are told of, among the records that are judged

module _ (view : View) (beginning : Beginning) (profile : Profile) (rows : Rows) where
  abbrev all : Rest
  all = judged_from beginning rows.records

  abbrev Texts : List Event → List ℕ → Type 0
  Texts events text = AreTextsOf (IsEventText view (counting profile)) events text

  -- the first of them, which keep the rules, or none
  record IsFirstPart (part : Part) : Type 0 where
    pub is_ok : IsOk (counting profile) part.records
    pub tells : AreEvents (counting profile) all.past [] part.records part.events
    pub rest : List LineByte
    pub split : all.records ≡ part.records ++ rest

  none_first : (part : Part) → IsPart (counting profile) part → part.records ≡ [] → IsFirstPart part
  none_first part is none =
      let silent : part.events ≡ [] = rw none at is.are_events in
      record { is_ok = part_ok is; tells = rw none silent; rest = all.records; split = rw none refl }

  -- all of them
  record IsWholePart (part : Part) : Type 0 where
    pub is_part : IsPart (counting profile) part
    pub same : all ≡ record { past = part.past; records = part.records }

  -- the first part, which breaks
  abbrev IsBroken : BrokenPart → Type 0
  IsBroken b = (left : Rest) × AreParts (counting profile) all (b ∷ []) left

  -- ---- what a history has told

  module _ (t : ToldSoFar view (up_to_break beginning) profile rows) where
    abbrev h : History
    h = t.history

    module _ (none : h.broken ≡ []) where
      is_first : IsFirstPart h.part
      is_first =
          let left : t.is_history.left ≡ judged_from beginning h.items = rw none at t.is_history.parts in
          let begins = t.is_history.begins in elim (judged_more beginning h.items t.start.0) [
            | inl nothing ↦ none_first h.part t.is_history.is_part (nil_from_length h.part.records
                (omega (arith, ap length nothing, ap (λ (r : Rest). length r.records) left, ap length begins.1, length-append h.part.records begins.0)))
            | inr same ↦
                let whole = ap (judged_from beginning) t.start.1 ∙ same in
                let past : h.part.past ≡ all.past = cc (ap (λ (r : Rest). r.past) left, ap (λ (r : Rest). r.past) whole, t.is_history.past) in
                record {
                  is_ok = part_ok t.is_history.is_part;
                  tells = subst (λ n. AreEvents (counting profile) n [] h.part.records h.part.events) past t.is_history.is_part.are_events;
                  rest = begins.0 ++ t.start.0;
                  split = cc (ap (λ (r : Rest). r.records) left, ap (λ (r : Rest). r.records) whole, begins.1, append_assoc h.part.records begins.0 t.start.0);
                }
          ]

      is_whole : {fault : Option CaptureError} → IsToTheEnd rows h t.is_history.left fault → IsWholePart h.part
      is_whole end = record { is_part = t.is_history.is_part; same = ap (λ (r : Rows). judged_from beginning r.records) end.all ∙ judged_part t.is_history none end.all_judged }

      -- where the reply limit counts nothing is told besides
      events_told : told_in h ≡ h.part.events
      events_told = elim t.is_history.besides [
        | inl nothing ↦ ap (λ l. h.part.events ++ l) nothing ∙ append-nil h.part.events
        | inr (r, after, split, reason, breaks, are) ↦ told_counting h.part r t.is_history.is_part breaks.not_ok (told_in h) are
      ]

      lines : Texts h.part.events t.text
      lines =
          let empty : t.is_text.texts ≡ [] = rw none at t.is_text.are_texts in
          subst (Texts h.part.events) (sym (t.is_text.whole ∙ ap (λ l. l ++ t.is_text.lines) empty)) (rw events_told at t.is_text.are_lines)

    module _ (b : BrokenPart) (one : h.broken ≡ b ∷ []) where
      is_broken : IsBroken b
      is_broken =
          let parts = rw one at t.is_history.parts in
          let rest = judged_broken beginning b h.items rows.records parts t.start in
          (rest_after (b.part.past + length b.part.records) b.reason b.breaking rest.0, (rest.0, rest.1, parts.2, parts.3, parts.4, refl))

      text_of_break : IsPartText view (counting profile) b t.text
      text_of_break =
          let silent : told_in h ≡ [] = elim (t.first refl) [ inl none ↦ absurd (cc (none, one)) | inr at ↦ at.4 ] in
          let empty : t.is_text.lines ≡ [] = rw silent at t.is_text.are_lines in
          let texts : AreTextsOf (IsPartText view (counting profile)) (b ∷ []) t.is_text.texts = rw one at t.is_text.are_texts in
          rw (t.is_text.whole, empty, append-nil, texts.4, texts.3, append-nil) texts.2

  -- ---- the whole text, of all parts that are judged or up to the first break

  abbrev yes_of : Part → Verdict
  yes_of part = Verdict.Yes (length part.records) (length part.exchanges) (length part.tail)

  abbrev Ended : List ℕ → Type 0
  Ended whole =
      ((part : Part) × IsWholePart part × (lines : List ℕ) × Texts part.events lines × (end : List ℕ) × (whole ≡ lines ++ end)
      × (rows.fault ≡ None → end ≡ line_of (yes_of part)))
      ⊎ ((b : BrokenPart) × IsBroken b × IsPartText view (counting profile) b whole)

  ended_of : (whole : List ℕ) → IsText view (up_to_break beginning) profile rows whole → Ended whole
  ended_of whole w = by w.ends
    where
      t : ToldSoFar view (up_to_break beginning) profile rows
      t = w.so_far

      by : ((end : Ending) × IsEndingOf Extent.FirstBreak end × IsEnding rows t.history t.is_history.left end × (whole ≡ t.text ++ last_line end))
          ⊎ ((e : CaptureError) × IsToTheEnd rows t.history t.is_history.left (Some e) × (whole ≡ t.text)) → Ended whole
      by (inl (Ending.judged (Verdict.Yes records exchanges tail), of, is, same)) =
          let yes : Verdict.Yes records exchanges tail ≡ yes_of t.history.part = cc (is.2, is.3, is.4) in
          inl (t.history.part, is_whole t is.1 is.0, t.text, lines t is.1, line_of (Verdict.Yes records exchanges tail), same, λ sound. ap line_of yes)
      by (inl (Ending.judged (Verdict.No at reason), of, is, same)) = inr (is.0, is_broken t is.0 is.1, rw (same, append-nil) (text_of_break t is.0 is.1))
      by (inl (Ending.counted totals, of, is, same)) = absurd of
      by (inr (e, is, same)) = elim (t.first refl) [
        | inl none ↦
            let fault : rows.fault ≡ Some e = ap (λ (r : Rows). r.fault) is.all in
            inl (t.history.part, is_whole t none is, t.text, lines t none, [], same ∙ sym (append-nil t.text), λ sound. absurd (cc (sound, fault)))
        | inr at ↦ inr (at.0, is_broken t at.0 at.1, rw same (text_of_break t at.0 at.1))
      ]

  -- ---- what was told begins it

  not_both : (part : Part) (b : BrokenPart) → IsWholePart part → IsBroken b → ⊥
  not_both part b whole is = none_breaks is.0 b [] is.1 (rw whole.same (part_ok whole.is_part))

  goes_on : (part : Part) (text whole : List ℕ) → IsFirstPart part → Texts part.events text → Ended whole → (rest : List ℕ) × (whole ≡ text ++ rest)
  goes_on part text whole first told (inl (other, is, lines, are, end, same, sound)) =
      let records = sym (ap (λ (r : Rest). r.records) is.same) ∙ first.split in
      let tells = rw (sym (ap (λ (r : Rest). r.past) is.same), records) at is.is_part.are_events in
      let on = texts_start view profile all.past [] part.records first.rest part.events other.events text lines first.tells tells told are in
      (on.0 ++ end, same ∙ ap (λ t. t ++ end) on.1 ∙ append_assoc text on.0 end)
  goes_on part text whole first told (inr (b, (left, parts), (lines, end, are, says, same))) =
      let no_more = no_longer (first_no left b [] parts) part.records first.rest first.is_ok first.split in
      let split = sym first.split ∙ ap (λ (r : Rest). r.records) parts.1 ∙ sym (append_assoc b.part.records (b.breaking ∷ []) parts.0) in
      let more = shorter part.records first.rest (b.part.records ++ b.breaking ∷ []) parts.0 split (omega (arith, no_more, length_push b.part.records b.breaking)) in
      let tells = rw (sym (ap (λ (r : Rest). r.past) parts.1), more.1) at parts.4 in
      let on = texts_start view profile all.past [] part.records more.0 part.events b.events text lines first.tells tells told are in
      (on.0 ++ end, same ∙ ap (λ t. t ++ end) on.1 ∙ append_assoc text on.0 end)

  ends_with_yes : (part : Part) (text whole : List ℕ) → IsWholePart part → rows.fault ≡ None → Texts part.events text → Ended whole → whole ≡ text ++ line_of (yes_of part)
  ends_with_yes part text whole is sound told (inl (other, be, lines, are, end, same, line)) =
      let at = sym be.same ∙ is.same in
      let one = same_part (counting profile) other part be.is_part is.is_part (ap (λ (r : Rest). r.past) at) (ap (λ (r : Rest). r.records) at) in
      let text_is = texts_once view profile part.past part.records part.events text lines is.is_part.are_events told (rw one at are) in
      same ∙ ap (λ t. t ++ end) text_is ∙ ap (λ t. text ++ t) (line sound ∙ ap (λ p. line_of (yes_of p)) one)
  ends_with_yes part text whole is sound told (inr broken) = absurd (not_both part broken.0 is broken.1)

  ends_at_break : (b : BrokenPart) (text whole : List ℕ) → IsBroken b → IsPartText view (counting profile) b text → Ended whole → whole ≡ text
  ends_at_break b text whole is told (inl ended) = absurd (not_both ended.0 b ended.1 is)
  ends_at_break b text whole (left, parts) (lines, end, are, says, same) (inr (c, (remaining, others), also)) =
      let one = one_first left remaining b c [] [] parts others in
      let (all_lines, all_end, all_are, all_says, all_same) = rw (← one.0) at also in
      all_same ∙ ap (λ t. t ++ all_end) (texts_once view profile b.part.past (b.part.records ++ b.breaking ∷ []) b.events lines all_lines parts.4 are all_are)
      ∙ ap (λ t. lines ++ t) (break_text_once view (counting profile) b end all_end parts.2.run says all_says) ∙ sym same

  -- what was written of it, with the line of a verdict or without
  begins : (t : ToldSoFar view (up_to_break beginning) profile rows) (whole : List ℕ) (old new : Option (List ℕ)) → Ended whole
      → AppendsPart old new t.text ⊎ ((v : Verdict) × IsEnding rows t.history t.is_history.left (Ending.judged v) × AppendsPart old new (t.text ++ last_line (Ending.judged v)))
      → AppendsPart old new whole
  begins t whole old new ended (inl part) = elim (t.first refl) [
    | inl none ↦ let on = goes_on t.history.part t.text whole (is_first t none) (lines t none) ended in rw on.1 (first_part old new t.text on.0 part)
    | inr at ↦ rw (ends_at_break at.0 t.text whole (is_broken t at.0 at.1) (text_of_break t at.0 at.1) ended) part
  ]
  begins t whole old new ended (inr (Verdict.Yes records exchanges tail, is, part)) =
      let yes : yes_of t.history.part ≡ Verdict.Yes records exchanges tail = cc (is.2, is.3, is.4) in
      rw (ends_with_yes t.history.part t.text whole (is_whole t is.1 is.0) (ap (λ (r : Rows). r.fault) is.0.all) (lines t is.1) ended)
      (subst (λ (v : Verdict). AppendsPart old new (t.text ++ line_of v)) (sym yes) part)
  begins t whole old new ended (inr (Verdict.No at reason, is, part)) =
      rw (ends_at_break is.0 t.text whole (is_broken t is.0 is.1) (text_of_break t is.0 is.1) ended) (rw append-nil at part)

-- ---- what was written

all_of : (old new : Option (List ℕ)) (bytes : List ℕ) → Appends old new bytes → AppendsPart old new bytes
all_of old new bytes h = (length bytes, omega arith, subst (λ t. Appends old new t) (sym (take-length bytes)) h)

-- a first part of what was told, with the line of a verdict or without
first_written : {rows : Rows} {h : History} {left : Rest} (text : List ℕ) (old new : Option (List ℕ)) (r : Result Verdict JudgeError) → Written Extent.FirstBreak rows h left text (by_verdict r) old new
    → AppendsPart old new text ⊎ ((v : Verdict) × IsEnding rows h left (Ending.judged v) × AppendsPart old new (text ++ last_line (Ending.judged v)))
first_written text old new (Ok v) written = inr (v, written.0, all_of old new _ written.1)
first_written text old new (Err (JudgeError.Capture e)) written = inl (all_of old new _ written.1)
first_written text old new (Err JudgeError.Write) (inl part) = inl part
first_written text old new (Err JudgeError.Write) (inr (Ending.judged v, of, is, part)) = inr (v, is, part)
first_written text old new (Err JudgeError.Write) (inr (Ending.counted totals, of, is, part)) = absurd of
first_written text old new (Err JudgeError.OutOfMemory) written = inl (all_of old new _ written)

pub first_of_text : (view : View) (beginning : Beginning) (profile : Profile) (rows : Rows) (result : Result Verdict JudgeError) (old new : Option (List ℕ)) (whole : List ℕ)
    → Told view (up_to_break beginning) profile (Some rows) (by_verdict result) old new → IsText view (up_to_break beginning) profile rows whole → AppendsPart old new whole
first_of_text view beginning profile rows result old new whole told text =
    begins view beginning profile told.rows told.so_far whole old new (ended_of view beginning profile told.rows whole (rw (← told.is_known) at text))
    (first_written told.so_far.text old new result told.written)
