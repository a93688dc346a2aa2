-- The text of what was told, with one event more.
use Rattle.judge9.proofs.Words.{[], ap, append-nil, append_assoc, AreTextsOf, Break, Ends, Event, Exchange, exchange, Feed, History, inl, inr, IsBreakText, IsEnd, IsEventText, IsPartText, IsSilent}
use Rattle.judge9.proofs.Words.{IsTextOf, IsToldText, IsWhy, knowledge_same, late_reply, List, Option, Possible, refl, SaysWhy, ShowsBreak, sym, Tells, TellsBreak, TellsExchange, TellsLateReply}
use Rattle.judge9.proofs.Words.{Terms, told_in, Turn, View, WhyNo, ℕ, ◌++◌, ◌∙◌, ◌∷◌, ◌≡◌}
use Rattle.judge9.proofs.TurnSteps.{same_exchange}

-- those of a list, and that of one more
texts_push : {A : Type 0} (T : A → List ℕ → Type 0) (xs : List A) (x : A) (texts text : List ℕ) → AreTextsOf T xs texts → T x text
    → AreTextsOf T (xs ++ x ∷ []) (texts ++ text)
texts_push T [] x texts text are is = rw are (text, [], is, refl, sym (append-nil text))
texts_push T (y ∷ xs) x texts text (first, others, one, rest, same) is =
    (first, others ++ text, one, texts_push T xs x others text rest is, ap (λ t. t ++ text) same ∙ append_assoc first others text)

-- ---- what was told

module _ {view : View} {terms : Terms} where
  -- nothing more
  pub text_silent : {h next : History} {text : List ℕ} → IsSilent h next → IsToldText view terms h text → IsToldText view terms next text
  text_silent silent t = record { texts = t.texts; are_texts = rw silent.broken t.are_texts; lines = t.lines; are_lines = rw silent.told t.are_lines; whole = t.whole }

  more_text : {h next : History} {text : List ℕ} (line : List ℕ) (e : Event) → next.broken ≡ h.broken → told_in next ≡ told_in h ++ e ∷ [] → IsEventText view terms e line → IsToldText view terms h text
      → IsToldText view terms next (text ++ line)
  more_text {h = h} line e broken told is t = record {
    texts = t.texts;
    are_texts = rw broken t.are_texts;
    lines = t.lines ++ line;
    are_lines = rw told (texts_push (IsEventText view terms) (told_in h) e t.lines line t.are_lines is);
    whole = ap (λ l. l ++ line) t.whole ∙ append_assoc t.texts t.lines line;
  }

-- an exchange
exchange_text : {R : Type 0} (view : View) {terms : Terms} {h next : History} {j : Feed R} (es : List Exchange) (us : Option ℕ) (line : List ℕ) (t : TellsExchange terms h next j)
    → IsTextOf view terms.profile j es us Turn.Exchange line → IsEventText view terms (exchange j.rows.given h.part.exchanges t.e) line
exchange_text (View.Explain detail) {terms = terms} {h = h} {j = j} es us line t (e, shown, known, knows, is) =
    (known, knowledge_same (Possible j.follower.tracker.states) (Ends terms.profile (h.part.exchanges ++ t.e ∷ [])) known t.knows.states knows, rw (same_exchange shown t.shown, t.knows.going) at is)
exchange_text view es us line t is = is

-- a late reply
late_text : {R : Type 0} (view : View) {terms : Terms} {h next : History} {j : Feed R} {r : _} (es : List Exchange) (us : Option ℕ) (line : List ℕ) (t : TellsLateReply terms h next r j)
    → IsTextOf view terms.profile j es us (Turn.LateReply r) line → IsEventText view terms (late_reply j.rows.given t.asked r) line
late_text View.Why es us line t (why, says, is) = (why, rw t.rules at (says t.asked (rw t.rules t.late) t.open_records), is)
late_text view es us line t is = is

-- why a part breaks
module _ {R : Type 0} {terms : Terms} {h next : History} {b : Break} {j : Feed R} (es : List Exchange) (us : Option ℕ) (t : TellsBreak terms h next b j) where
  pub why_text : (es ≡ t.part.part.exchanges) × (t.part.part.tail ≡ [] → IsEnd t.part.part.records es us) → (why : WhyNo) → SaysWhy terms.profile j.rows.given b j.follower.pairer es us why
      → ShowsBreak terms t.part j.follower.pairer → IsWhy terms t.part why
  why_text (kept, ended) (WhyNo.Break at x tail o before r) (number, x_is, r_is, tail_is, opened, told, other) (inl (not, rules, same)) = (
    number ∙ sym t.number,
    x_is ∙ sym t.reason,
    not,
    r_is ∙ sym t.breaking,
    tail_is ∙ same,
    rw (rules, same) at opened,
    rw (kept, same) at (told t.part.part.records (λ nil. ended (sym same ∙ nil))),
  )
  why_text kept (WhyNo.Break at x tail o before r) (number, x_is, r_is, tail_is, opened, told, other) (inr shows) = absurd (other (sym t.reason ∙ shows.0))
  why_text kept (WhyNo.Contradiction at exchanges places known shown) (is, e, e_is, says) (inl (not, rules, same)) = absurd (not (t.reason ∙ is))
  why_text (kept, ended) (WhyNo.Contradiction at exchanges places known shown) (is, e, e_is, (number, items, contradict, could)) (inr (no_run, f, f_is, whole, breaks)) =
      let same = same_exchange e_is f_is in
      (number ∙ sym t.number, no_run, f, whole, rw (same, kept) at items, rw items contradict, rw items could)

  break_text : (view : View) (line : List ℕ) → (view ≡ View.Why → (es ≡ t.part.part.exchanges) × (t.part.part.tail ≡ [] → IsEnd t.part.part.records es us))
      → IsTextOf view terms.profile j es us (Turn.Break b) line → IsBreakText view terms t.part line
  break_text View.Why line kept (why, says, is) = (why, why_text (kept refl) why says t.shows, is)
  break_text view line kept is = rw (t.number, t.reason) is

  -- and with it the part was told
  text_break : (view : View) {text : List ℕ} (line : List ℕ) → (view ≡ View.Why → (es ≡ t.part.part.exchanges) × (t.part.part.tail ≡ [] → IsEnd t.part.part.records es us))
      → IsTextOf view terms.profile j es us (Turn.Break b) line → IsToldText view terms h text → IsToldText view terms next (text ++ line)
  text_break view line kept is told = record {
    texts = told.texts ++ (told.lines ++ line);
    are_texts = rw t.broken (texts_push (IsPartText view terms) h.broken t.part told.texts (told.lines ++ line) told.are_texts
        (told.lines, line, rw t.events told.are_lines, break_text view line kept is, refl));
    lines = [];
    are_lines = rw t.told refl;
    whole = ap (λ l. l ++ line) told.whole ∙ append_assoc told.texts told.lines line ∙ sym (append-nil _);
  }

-- an event more
pub text_next : {R : Type 0} (view : View) {terms : Terms} {h next : History} {j : Feed R} (es : List Exchange) (us : Option ℕ) (event : Turn) {text : List ℕ} (line : List ℕ)
    → ((b : Break) (t : TellsBreak terms h next b j) → view ≡ View.Why → (es ≡ t.part.part.exchanges) × (t.part.part.tail ≡ [] → IsEnd t.part.part.records es us))
    → Tells terms h event next j → IsTextOf view terms.profile j es us event line → IsToldText view terms h text → IsToldText view terms next (text ++ line)
text_next view es us Turn.Exchange line facts t is told = more_text line _ t.broken t.told (exchange_text view es us line t is) told
text_next view es us (Turn.LateReply r) line facts t is told = more_text line _ t.broken t.told (late_text view es us line t is) told
text_next view es us (Turn.Break b) line facts t is told = text_break es us t view line (facts b t) is told
text_next view es us Turn.End line facts t is told = absurd t
