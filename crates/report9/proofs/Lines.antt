-- The lines of a run, and those of a record that breaks a rule of pairing, one after another.
use Rattle.report9.proofs.Words.{[], ap, append-nil, append_assoc, Appends, Appends-trans, AppendsPart, arith, bytes_of, codes, drop, drop-cons, end_before, EndedExchange, Exchange, get_or, Global}
use Rattle.report9.proofs.Words.{hex_byte, hex_bytes, inl, inr, last_time-last, length, line_of_open, line_of_state, LineByte, lines_of_break, lines_of_run, List, None, Open, Option, Profile}
use Rattle.report9.proofs.Words.{Reason, records_of, refl, slice_get, Some, State, suc, sym, Vec, WhyNo, Wire, ℕ, ◌++◌, ◌+◌, ◌-◌, ◌<◌, ◌∙◌, ◌∷◌, ◌≡◌, ◌≢◌, ◌⊎◌}
use Rattle.report9.specs.declared.why_no.WhyNo.TheVariants as why
use Rattle.report9.proofs.WriteLemmas.{first_part, part_after}

-- all the lines were written but those of these exchanges and states, which are left
pub record LinesSoFar (profile : Profile) (past : ℕ) (exchanges : List Exchange) (states : List State) (es : List Exchange) (ss : List State) (at : ℕ)
    (old now : Option (List ℕ)) : Type 0 where
  pub text : List ℕ
  pub written : Appends old now text
  pub rest : lines_of_run profile past exchanges states ≡ text ++ lines_of_run profile at es ss

module _ {profile : Profile} {exchanges left es : List Exchange} {states later ss : List State} {e : Exchange} {s : State} {past at n : ℕ} {old now : Option (List ℕ)}
    (h : LinesSoFar profile past exchanges states left later at old now) (first : left ≡ e ∷ es) (second : later ≡ s ∷ ss) (number : n ≡ records_of e) where
  -- the text is what was written, the next line and what comes after it
  split-next : lines_of_run profile past exchanges states ≡ (h.text ++ line_of_state profile (at + n) s) ++ lines_of_run profile (at + n) es ss
  split-next = rw (append_assoc, number) (rw (first, second) at h.rest)

  -- one line more
  pub lines-more : {new : Option (List ℕ)} → Appends now new (line_of_state profile (at + n) s) → LinesSoFar profile past exchanges states es ss (at + n) old new
  lines-more {new = new} line = record {
    text = h.text ++ line_of_state profile (at + n) s;
    written =
        Appends-trans old now new h.text (line_of_state profile (at + n) s) h.written line;
    rest = split-next;
  }

  -- a first part of one line more
  pub lines-part : (new : Option (List ℕ)) → AppendsPart now new (line_of_state profile (at + n) s) → AppendsPart old new (lines_of_run profile past exchanges states)
  lines-part new part = rw split-next (first_part old new (h.text ++ line_of_state profile (at + n) s) (lines_of_run profile (at + n) es ss)
      (part_after old now new h.text (line_of_state profile (at + n) s) h.written part))

-- no exchange is left, or no state
no-more : (profile : Profile) (at : ℕ) (es : List Exchange) (ss : List State) → (es ≡ []) ⊎ (ss ≡ []) → lines_of_run profile at es ss ≡ []
no-more profile at (e ∷ es) (s ∷ ss) none = elim none [ inl f ↦ cc | inr f ↦ cc ]
no-more profile at _ _ none = refl

-- all lines
pub lines-end : {profile : Profile} {exchanges es : List Exchange} {states ss : List State} {past at : ℕ} {old now : Option (List ℕ)}
    → LinesSoFar profile past exchanges states es ss at old now → (es ≡ []) ⊎ (ss ≡ []) → Appends old now (lines_of_run profile past exchanges states)
lines-end {profile = profile} {es = es} {ss = ss} {at = at} h none = rw (h.rest, no-more profile at es ss none, append-nil) h.written

-- ---- the lines of a record that breaks a rule of pairing

-- where no record is open, no line is put
pub no_line : (p : Profile) (at : ℕ) (o : Open) (wire breaking : Wire) (records : List LineByte) (l : List ℕ) → None ≡ slice_get records 0
    → l ≡ l ++ line_of_open p at o wire breaking records
unfolding line_of_open
no_line p at o wire breaking [] l none = sym (append-nil l)
no_line p at o wire breaking (r ∷ records) l none = cc

-- the bytes of one record more
pub bytes_more : (records : List LineByte) (i : ℕ) (d : LineByte) (before l mid new whole : List ℕ) → i < length records
    → l ++ hex_bytes before (bytes_of (drop i records)) ≡ whole → mid ≡ l ++ before → new ≡ mid ++ hex_byte (get_or records i d).byte
    → new ++ hex_bytes (codes " ") (bytes_of (drop (i + 1) records)) ≡ whole
bytes_more records i d before l mid new whole h so_far first second =
    let r = get_or records i d in
    let rest = hex_bytes (codes " ") (bytes_of (drop (i + 1) records)) in
    let place : suc i ≡ i + 1 = omega arith in
    let split : drop i records ≡ r ∷ drop (i + 1) records = drop-cons records i d h ∙ ap (λ k. r ∷ drop k records) place in
    let bytes : l ++ (before ++ hex_byte r.byte ++ rest) ≡ whole = rw split at so_far in
    rw (second, first) (ap (λ t. t ++ rest) (append_assoc l before (hex_byte r.byte)) ∙ append_assoc l (before ++ hex_byte r.byte) rest ∙ bytes)

-- where no run remains no line is put
pub no_break : (p : Profile) (v : WhyNo) (l : List ℕ)
    → ((at : ℕ) (reason : Reason) (tail : Vec LineByte Global) (o : Open) (before : Option EndedExchange) (r : LineByte) → v ≢ why.Break at reason tail o before r)
    → l ≡ l ++ lines_of_break p v
unfolding lines_of_break
no_break p (why.Break at reason tail o before r) l other = absurd (other at reason tail o before r refl)
no_break p (why.Contradiction at exchanges places known shown) l other = sym (append-nil l)

-- the time of the last open record, or of the last of the exchange before
pub end_of_tail : (tail : List LineByte) (before : Option EndedExchange) (last : LineByte) → Some last ≡ slice_get tail (length tail - 1)
    → end_before tail before ≡ Some last.time_us
end_of_tail [] before last is = cc
end_of_tail (first ∷ records) before last is = ap Some (sym (last_time-last (first ∷ records) last is))
