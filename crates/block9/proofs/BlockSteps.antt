-- A block that gets one record more: how it begins, goes on and ends.
use Rattle.block9.proofs.Words.{[], ap, arith, Block, block_len, block_of, body_of, bytes_of, ends_block, false, IsBegun, IsWhole, length, length-map, length_push, LineByte}
use Rattle.block9.proofs.Words.{List, map_push, nat_tests, same_from_push, sum, sym, true, Wire, ℕ, ◌%◌, ◌++◌, ◌+◌, ◌/◌, ◌<◌, ◌↔◌, ◌∙◌, ◌∷◌, ◌≡◌}
use Rattle.block9.proofs.LineLemmas.{block_of-body_of, GoesOn, linked_push, whole_first, whole_long}

-- a begun block stays one with a record that goes on with it and does not end it
pub begun_push : (w : Wire) (records : List LineByte) (r : LineByte) → 0 < length records
    → IsBegun w (records ++ r ∷ []) ↔ (IsBegun w records × GoesOn w records r × (ends_block records ≡ false))
begun_push w [] r some = absurd (omega arith)
begun_push w (a ∷ rest) r some =
    let linked = linked_push w a rest r in
    let len = length_push rest r in
    (λ h. let l = linked.0 h.linked in grind (arith, nat_tests), λ h. let l = linked.1 (h.0.linked, h.1) in grind (arith, nat_tests))

-- a record that ends its block with the right sum
pub whole_now : (w : Wire) (records : List LineByte) (r : LineByte) → IsBegun w records → GoesOn w records r → ends_block records ≡ true
    → r.byte ≡ sum (bytes_of records) % 256 → IsWhole w (records ++ r ∷ []) (block_of (bytes_of records))
whole_now w (a ∷ c ∷ rest) r h g e s =
    let n : length (a ∷ c ∷ rest) + 1 ≡ block_len (a ∷ c ∷ rest) = grind (arith, nat_tests) in
    let low : a.byte / 16 < 16 = let allowed = h.allowed in grind (arith, nat_tests) in
    let len = length-map rest (λ (r : LineByte). r.byte) in
    let pushed = map_push (λ (r : LineByte). r.byte) (a ∷ c ∷ rest) r in
    let body : bytes_of (a ∷ c ∷ rest) ≡ body_of (block_of (bytes_of (a ∷ c ∷ rest))) =
    ap (λ (x : ℕ). let bytes : List ℕ = x ∷ bytes_of (c ∷ rest) in bytes) (omega (arith, len, n)) in
    record {
      linked = (linked_push w a (c ∷ rest) r).1 (h.linked, g);
      spelled = record { block = record { group = low; data_bytes = omega (arith, len, n) }; spelled = cc (pushed, body, s) };
      allowed = h.allowed;
    }
whole_now w records r h g e s = absurd (grind (arith, nat_tests))

-- a complete block without its last record is begun, and the record goes on with it and ends it
pub record EndsNow (w : Wire) (records : List LineByte) (r : LineByte) (b : Block) : Type 0 where
  pub begun : IsBegun w records
  pub goes_on : GoesOn w records r
  pub ends : ends_block records ≡ true
  pub sum_right : r.byte ≡ sum (bytes_of records) % 256
  pub block : b ≡ block_of (bytes_of records)

pub whole_less : (w : Wire) (records : List LineByte) (r : LineByte) (b : Block) → IsWhole w (records ++ r ∷ []) b → EndsNow w records r b
whole_less w [] r b h = absurd (let n = whole_long w (r ∷ []) b h in omega arith)
whole_less w (a ∷ rest) r b h =
    let first = whole_first w a (rest ++ r ∷ []) b h in
    let len = length_push rest r in
    let linked = (linked_push w a rest r).0 h.linked in
    let parts = same_from_push (bytes_of (a ∷ rest)) (body_of b) r.byte _ (sym (map_push (λ (r : LineByte). r.byte) (a ∷ rest) r) ∙ h.spelled.spelled) in
    record {
      begun = record { linked = linked.0; begun = omega arith; short = omega arith; allowed = rw first.1 h.allowed };
      goes_on = linked.1;
      ends = grind (arith, nat_tests);
      sum_right = parts.1 ∙ ap (λ (bytes : List ℕ). sum bytes % 256) (sym parts.0);
      block = sym (block_of-body_of b h.spelled.block.data_bytes) ∙ ap block_of (sym parts.0);
    }
