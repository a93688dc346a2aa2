-- A cut that gets one record more.
use Rattle.judge9.proofs.Words.{exchanges_after, LineRules, [], append-nil, arith, Cut, cut_joined, Does, Exchange, inl, inr, IsExchange, IsKept, IsTail, last_apart, LineByte, List, refl, Outcome}
use Rattle.judge9.proofs.Words.{ap, append_assoc, still_tail, subst, sym, tail_after, tail_no_exchange, ◌++◌, ◌∙◌, ◌∷◌, ◌≡◌, ◌⊎◌}

-- a tail that grows
pub cut-tail : (rules : LineRules) (p : List LineByte) (es : List Exchange) (t : List LineByte) (r : LineByte) → Cut rules p es t → IsTail rules (t ++ r ∷ [])
    → Cut rules (p ++ r ∷ []) es (t ++ r ∷ [])
cut-tail rules p es t r h more = rw append-nil at (cut_joined rules p es [] t (r ∷ []) (t ++ r ∷ []) h (refl, more))

-- a tail that becomes an exchange
pub cut-exchange : (rules : LineRules) (p : List LineByte) (es : List Exchange) (t : List LineByte) (r : LineByte) (e : Exchange) → Cut rules p es t → IsExchange rules (t ++ r ∷ []) e
    → Cut rules (p ++ r ∷ []) (es ++ e ∷ []) []
cut-exchange rules p es t r e h more = cut_joined rules p es (e ∷ []) t (r ∷ []) [] h (t ++ r ∷ [], [], sym (append-nil (t ++ r ∷ [])), more, (refl, IsTail.nothing refl))

-- the tail is at the end
pub tail_last : (rules : LineRules) (p : List LineByte) (es : List Exchange) (t : List LineByte) → Cut rules p es t → (front : List LineByte) × (p ≡ front ++ t)
tail_last rules p [] t h = ([], h.0)
tail_last rules p (e ∷ es) t h = let m = tail_last rules h.1 es t h.4 in (h.0 ++ m.0, h.2 ∙ ap (λ l. h.0 ++ l) m.1 ∙ sym (append_assoc h.0 m.0 t))

-- what a record does
pub cut-step : (rules : LineRules) (p : List LineByte) (es : List Exchange) (t : List LineByte) (r : LineByte) (s : Outcome) → Cut rules p es t → Does rules t r s
    → Cut rules (p ++ r ∷ []) (exchanges_after es s) (tail_after t r s)
cut-step rules p es t r (Outcome.completes e) h done = cut-exchange rules p es t r e h done
cut-step rules p es t r s h done = cut-tail rules p es t r h (still_tail rules t r s done)

-- what a record makes of a tail where the rules of pairing are kept: a longer tail, or an exchange
pub kept_grows : (rules : LineRules) (t : List LineByte) (r : LineByte) → IsTail rules t → IsKept rules (t ++ r ∷ [])
    → IsTail rules (t ++ r ∷ []) ⊎ ((e : Exchange) × IsExchange rules (t ++ r ∷ []) e)
kept_grows rules t r tail h = by h.exchanges h.tail h.cut
  where
    by : (es : List Exchange) (u : List LineByte) → Cut rules (t ++ r ∷ []) es u → IsTail rules (t ++ r ∷ []) ⊎ ((e : Exchange) × IsExchange rules (t ++ r ∷ []) e)
    by [] u k = inl (subst (λ (l : List LineByte). IsTail rules l) (sym k.0) k.1)
    by (e ∷ es) u (front, [], split, is, more) = inr (e, subst (λ (l : List LineByte). IsExchange rules l e) (sym (split ∙ append-nil front)) is)
    by (e ∷ es) u (front, a ∷ rest, split, is, more) =
        let parts = last_apart rules t front (a ∷ rest) r split (omega arith) in
        absurd (tail_no_exchange rules t front parts.0 e tail is parts.2)
