-- The records that a `Records` has given, as rows that some text can hold.
use Rattle.capture9.proofs.Words.{[], All-push, arith, CanBeRows, CaptureError, get_or, GivesRecord, GivesRefusal, is_of_text, IsNonDecreasingBy-push, IsTrue, last_time, length}
use Rattle.capture9.proofs.Words.{length_push, LineByte, List, nil_from_length, no_rows, None, Progress, Reading, refl, Some, suc, sym, zero, ℕ, ◌++◌, ◌-◌, ◌<◌, ◌^◌, ◌∙◌, ◌∷◌}
use Rattle.capture9.proofs.Words.{◌≡◌}
use Rattle.capture9.proofs.LawLemmas.{can-follow}

-- these are the records that were given, of a text that may have at most `limit` rows
pub record AreGiven {R : Type 0} (limit : ℕ) (items : List LineByte) (progress : Progress R) : Type 0 where
  pub same_limit : progress.most_rows ≡ limit
  pub can_be : CanBeRows limit (record { records = items; fault = None })
  pub given : progress.given ≡ length items
  pub last_time : progress.last_time ≡ last_time 0 items

pub no_rows-can_be : (limit : ℕ) → CanBeRows limit no_rows
no_rows-can_be limit = grind arith

pub given-none : {R : Type 0} (limit : ℕ) (progress : Progress R) → progress.most_rows ≡ limit → progress.given ≡ 0 → progress.last_time ≡ 0 → AreGiven limit [] progress
given-none limit progress same given time = record { same_limit = same; can_be = no_rows-can_be limit; given = given; last_time = time }

last-push : (before : ℕ) (items : List LineByte) (r : LineByte) → last_time before (items ++ r ∷ []) ≡ r.time_us
last-push before [] r = refl
last-push before (x ∷ items) r = last-push x.time_us items r

last-at : (before : ℕ) (items : List LineByte) (n : ℕ) (d : LineByte) → length items ≡ suc n → (get_or items n d).time_us ≡ last_time before items
last-at before (x ∷ []) zero d size = refl
last-at before (x ∷ y ∷ items) (suc n) d size = last-at x.time_us (y ∷ items) n d (omega arith)
last-at before items n d size = absurd (omega arith)

pub given-more : {R : Type 0} {limit : ℕ} (items : List LineByte) (progress after : Progress R) (r : LineByte) → AreGiven limit items progress → GivesRecord progress r after
    → AreGiven limit (items ++ r ∷ []) after
given-more items progress after r h gives = record {
  same_limit = gives.same_limit ∙ h.same_limit;
  can_be = record {
    within = omega (arith, gives.within, h.same_limit, count);
    in_order = IsNonDecreasingBy-push (λ (x : LineByte). x.time_us) items r h.can_be.in_order
        (λ d some. omega (arith, gives.in_order, last-at 0 items (length items - 1) d (omega arith), h.last_time));
    in_range = All-push (λ (x : LineByte). x.time_us < 10 ^ 15) items r h.can_be.in_range gives.in_range;
    bytes = All-push (λ (x : LineByte). x.byte < 256) items r h.can_be.bytes gives.is_byte;
    fault = tt;
    shown = tt;
  };
  given = count;
  last_time = gives.last_time ∙ sym (last-push 0 items r);
}
  where
    count : after.given ≡ length (items ++ r ∷ [])
    count = omega (arith, h.given, gives.given, length_push items r)

-- a refusal of the text after these records
pub given-refused : {R : Type 0} {limit : ℕ} (items : List LineByte) (progress after : Progress R) (e : CaptureError) → AreGiven limit items progress
    → progress.standing ≡ Reading → GivesRefusal progress e after → IsTrue (is_of_text e.kind)
    → CanBeRows limit (record { records = items; fault = Some e })
given-refused {limit = limit} items progress after e h reads refusal text = record {
  within = h.can_be.within;
  in_order = h.can_be.in_order;
  in_range = h.can_be.in_range;
  bytes = h.can_be.bytes;
  fault = let placed = rw h.same_limit at (refusal.place.at_its_row text) in grind (arith, nil_from_length items, can-follow limit e.kind items e.row text placed.header placed.too_many);
  shown = rw h.last_time at (refusal.shown reads);
}
