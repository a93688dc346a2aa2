-- What is told of records up to a first break has one text, which that of first records begins.
use Rattle.judge9.proofs.Words.{[], ap, append-nil, append_assoc, AreEvents, AreTextsOf, BrokenPart, counting, Event, exchange, HasRun, IsBreakText, IsEvent, IsEventText, known_of_ends, late_reply}
use Rattle.judge9.proofs.Words.{line_of_exchange, LineByte, List, on_at_first, on_through, Profile, refl, sym, Terms, View, ℕ, ◌++◌, ◌∙◌, ◌∷◌, ◌≡◌}
use Rattle.judge9.proofs.Told.{at_once}
use Rattle.judge9.proofs.WhyOnce.{why_once}

-- an event has one text: it is no late reply, since the reply limit counts
text_once : (view : View) (profile : Profile) (past : ℕ) (before : List LineByte) (r : LineByte) (event : Event) (t u : List ℕ) → IsEvent (counting profile) past before r event
    → IsEventText view (counting profile) event t → IsEventText view (counting profile) event u → t ≡ u
text_once view profile past before r (late_reply at asked first) t u is a b = absurd (cc is.2)
text_once (View.Explain detail) profile past before r (exchange at es e) t u is a b =
    a.2 ∙ ap (λ k. line_of_exchange detail profile at e k (on_through profile (on_at_first profile.deck) (es ++ e ∷ []))) (known_of_ends profile (es ++ e ∷ []) a.0 b.0 is.2 a.1 b.1) ∙ sym b.2
text_once view profile past before r (exchange at es e) t u is a b = a ∙ sym b

-- the text of first records begins that of all, and is that of all where these are no more
pub texts_start : (view : View) (profile : Profile) (past : ℕ) (before records more : List LineByte) (some all : List Event) (text whole : List ℕ)
    → AreEvents (counting profile) past before records some → AreEvents (counting profile) past before (records ++ more) all
    → AreTextsOf (IsEventText view (counting profile)) some text → AreTextsOf (IsEventText view (counting profile)) all whole
    → (rest : List ℕ) × (whole ≡ text ++ rest) × (more ≡ [] → whole ≡ text)
texts_start view profile past before [] more some all text whole are others a b =
    let empty : text ≡ [] = rw are at a in (
      whole,
      ap (λ t. t ++ whole) (sym empty),
      λ none. let nothing : all ≡ [] = rw none at others in
          (let silent : whole ≡ [] = rw nothing at b in cc),
    )
texts_start view profile past before (r ∷ records) more some all text whole ([], xs, is, are, same) (y, ys, be, others, split) a b =
    texts_start view profile past (before ++ r ∷ []) records more xs ys text whole are others (rw same at a) (rw (split, at_once (counting profile) past before r y [] be is) at b)
texts_start view profile past before (r ∷ records) more some all text whole (event ∷ x ∷ zs, xs, is, are, same) h a b = absurd (cc is.1)
texts_start view profile past before (r ∷ records) more some all text whole (event ∷ [], xs, is, are, same) (y, ys, be, others, split) a b =
    let (first, text_on, one, behind, parted) = rw same at a in
    let (start, whole_on, other, rest, apart) = rw (split, at_once (counting profile) past before r y (event ∷ []) be is) at b in
    let once = text_once view profile past before r event first start is.0 one other in
    let on = texts_start view profile past (before ++ r ∷ []) records more xs ys text_on whole_on are others behind rest in
    (on.0, cc (parted, apart, once, on.1, append_assoc first text_on on.0), λ none. cc (parted, apart, once, on.2 none))

pub texts_once : (view : View) (profile : Profile) (past : ℕ) (records : List LineByte) (events : List Event) (text other : List ℕ) → AreEvents (counting profile) past [] records events
    → AreTextsOf (IsEventText view (counting profile)) events text → AreTextsOf (IsEventText view (counting profile)) events other → other ≡ text
texts_once view profile past records events text other are a b = (texts_start view profile past [] records [] events events text other are (rw append-nil are) a b).2 refl

pub break_text_once : (view : View) (terms : Terms) (b : BrokenPart) (t u : List ℕ) → HasRun terms.profile b.part.exchanges → IsBreakText view terms b t → IsBreakText view terms b u → u ≡ t
break_text_once View.Why terms b t u run a d = d.2 ∙ why_once terms b d.0 a.0 run d.1 a.1 ∙ sym a.2
break_text_once view terms b t u run a d = d ∙ sym a
