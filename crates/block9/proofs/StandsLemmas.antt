-- What is kept of the block that is open at the end of a tail: how it stands with one record more.
use Rattle.block9.proofs.Words.{[], AfterCommand, arith, block_len, bytes_of, Controller, Deck, drop, drop_at, ends_block, grown, InCommand, InReply, length, length_push, LineByte, List}
use Rattle.block9.proofs.Words.{nat_tests, open_at, OpenBlock, place_at, place_of, refl, Stands, sum, sym, to_come, ℕ, ◌%◌, ◌++◌, ◌+◌, ◌-◌, ◌<◌, ◌==◌, ◌∷◌, ◌≡◌, ◌≢◌, ◌∙◌}
use Rattle.std.proofs.lemmas.List.Sums.{fold_push}
use Rattle.std.proofs.lemmas.List.{drop-append-le, length-drop}
use Rattle.block9.proofs.Words.{ByteGap, if◌then◌else◌, None, Some, wire_fault}
use Rattle.block9.proofs.Words.{ap, Bool, Idle, map_push, Place}
use Rattle.block9.proofs.Words.{early_fault, false, is_late, is_soon, ReplyLimit, last_time, nat_le, place_on, true, Wire, byte_gap}
use Rattle.block9.proofs.LineLemmas.{block_len-append}

-- where a block is begun there is a record
pub begun_some : (t : List LineByte) (b : OpenBlock) → Stands t b → b.left ≢ 0 → 0 < length t
begun_some [] b h some = absurd (let place = h.place in grind (arith, nat_tests))
begun_some (r ∷ t) b h some = omega arith

-- the next record is the last one of the block where one is to come
pub ends_by_left : (t : List LineByte) (b : OpenBlock) → Stands t b → ends_block (open_at (place_of t) t) ≡ (b.left == 1)
ends_by_left t b h = by (open_at (place_of t) t) h.left
  where
    by : (records : List LineByte) → length records + b.left ≡ block_len records → ends_block records ≡ (b.left == 1)
    by [] e = grind (arith, nat_tests)
    by (r ∷ records) e = grind (arith, nat_tests)

-- a byte that is the sum that is kept is the right one
pub right_sum : (t : List LineByte) (b : OpenBlock) (byte : ℕ) → Stands t b → ends_block (open_at (place_of t) t) ≡ true → b.sum ≡ byte
    → byte ≡ sum (bytes_of (open_at (place_of t) t)) % 256
right_sum t b byte h ends same = let one = ends_by_left t b h in sym same ∙ h.sum_so_far (grind (arith, nat_tests))

-- nothing is open, and a command is complete
pub stands_idle : Stands [] (to_come Controller)
stands_idle = record { place = refl; left = refl; sum_so_far = λ some. absurd (omega arith) }

pub stands_after : (t : List LineByte) → place_of t ≡ AfterCommand → Stands t (to_come Deck)
stands_after t e = record { place = sym e; left = rw e refl; sum_so_far = λ some. absurd (omega arith) }

-- ---- what the table says of a record on the wire whose turn it is

-- its wire breaks no rule
right_wire : (wire w : Wire) (first soon : Bool) → wire ≡ w → wire_fault (place_on w first) wire soon ≡ None
right_wire wire Controller true soon e = rw e refl
right_wire wire Controller false soon e = rw e refl
right_wire wire Deck true soon e = rw e refl
right_wire wire Deck false soon e = rw e refl

pub its_turn : (t : List LineByte) (r : LineByte) (b : OpenBlock) → r.wire ≡ b.wire → wire_fault (place_at b) r.wire (is_soon t r) ≡ None
its_turn t r b e = right_wire r.wire b.wire (b.left == 0) (is_soon t r) e

-- inside a block it breaks the limit on the gap, or nothing
gap_of : (limit : ReplyLimit) (w : Wire) (t : List LineByte) (r : LineByte) → wire_fault (place_on w false) r.wire (is_soon t r) ≡ None
    → early_fault limit (place_on w false) t r ≡ (if nat_le r.time_us (last_time t + byte_gap) then None else Some ByteGap)
gap_of limit Controller t r e = grind (arith, nat_tests)
gap_of limit Deck t r e = grind (arith, nat_tests)

pub gap_told : (limit : ReplyLimit) (t : List LineByte) (r : LineByte) (b : OpenBlock) → Stands t b → wire_fault (place_at b) r.wire (is_soon t r) ≡ None → b.left ≢ 0
    → early_fault limit (place_of t) t r ≡ (if nat_le r.time_us (last_time t + byte_gap) then None else Some ByteGap)
gap_told limit t r b h turn some =
    let begun : (b.left == 0) ≡ false = grind (arith, nat_tests) in rw (← h.place, begun) (gap_of limit b.wire t r (rw begun at turn))

-- and it begins no late reply
inside_late : (w : Wire) (t : List LineByte) (r : LineByte) → is_late (place_on w false) t r ≡ false
inside_late Controller t r = refl
inside_late Deck t r = refl

pub inside_not_late : (t : List LineByte) (r : LineByte) (b : OpenBlock) → Stands t b → b.left ≢ 0 → is_late (place_of t) t r ≡ false
inside_not_late t r b h some = let begun : (b.left == 0) ≡ false = grind (arith, nat_tests) in rw (← h.place, begun) (inside_late b.wire t r)

-- ---- one more record, which is not the last one of its block

-- where a tail stands, and the records of its block
pub record Opens (t : List LineByte) (place : Place) (records : List LineByte) : Type 0 where
  pub stands : place_of t ≡ place
  pub opened : open_at (place_of t) t ≡ records

-- a tail with one record more
opens_command : (t : List LineByte) (r : LineByte) → place_of t ≡ Idle → Opens (t ++ r ∷ []) InCommand (r ∷ [])
opens_command [] r e = record { stands = grind (arith, nat_tests); opened = grind (arith, nat_tests) }
opens_command (a ∷ t) r e = absurd (grind (arith, nat_tests))

goes_on_command : (t : List LineByte) (r : LineByte) → place_of t ≡ InCommand → length t + 1 < block_len t → Opens (t ++ r ∷ []) InCommand (t ++ r ∷ [])
goes_on_command [] r e short = absurd (omega arith)
goes_on_command (a ∷ t) r e short =
    let len = length_push (a ∷ t) r in record { stands = grind (arith, nat_tests); opened = grind (arith, nat_tests) }

opens_reply : (t : List LineByte) (r : LineByte) → place_of t ≡ AfterCommand → Opens (t ++ r ∷ []) InReply (r ∷ [])
opens_reply [] r e = absurd (grind (arith, nat_tests))
opens_reply (a ∷ t) r e =
    let whole : length (a ∷ t) ≡ block_len (a ∷ t) = grind (arith, nat_tests) in
    let len = length_push (a ∷ t) r in
    let place : place_of ((a ∷ t) ++ r ∷ []) ≡ InReply = grind (arith, nat_tests) in
    record { stands = place; opened = rw place (drop_at (a ∷ t) (r ∷ []) (block_len (a ∷ t)) whole) }

goes_on_reply : (t : List LineByte) (r : LineByte) → place_of t ≡ InReply → Opens (t ++ r ∷ []) InReply (drop (block_len t) t ++ r ∷ [])
goes_on_reply [] r e = absurd (grind (arith, nat_tests))
goes_on_reply (a ∷ t) r e =
    let long : block_len (a ∷ t) < length (a ∷ t) = grind (arith, nat_tests) in
    let len = length_push (a ∷ t) r in
    let place : place_of ((a ∷ t) ++ r ∷ []) ≡ InReply = grind (arith, nat_tests) in
    record { stands = place; opened = rw place (drop-append-le (block_len (a ∷ t)) (a ∷ t) (r ∷ []) (omega arith)) }

reply_some : (t : List LineByte) → place_of t ≡ InReply → 0 < length (drop (block_len t) t)
reply_some [] e = absurd (grind (arith, nat_tests))
reply_some (a ∷ t) e =
    let long : block_len (a ∷ t) < length (a ∷ t) = grind (arith, nat_tests) in omega (arith, length-drop (block_len (a ∷ t)) (a ∷ t))

-- what is kept of a block with its first record, and of one with one record more
begun_stands : (w : Wire) (t : List LineByte) (r : LineByte) → Opens t (place_on w false) (r ∷ []) → r.byte < 256
    → Stands t (record { wire = w; left = r.byte % 16 + 2; sum = r.byte })
begun_stands w t r h byte =
    let open_more : (r.byte % 16 + 2 == 0) ≡ false = grind (arith, nat_tests) in
    record { place = rw open_more (sym h.stands); left = rw h.opened (omega arith); sum_so_far = λ some. rw h.opened (omega arith) }

longer_stands : (w : Wire) (t records : List LineByte) (r : LineByte) (left total : ℕ) → Opens t (place_on w false) (records ++ r ∷ []) → 0 < length records
    → length records + left ≡ block_len records → total ≡ sum (bytes_of records) % 256 → 1 < left
    → Stands t (record { wire = w; left = left - 1; sum = (total + r.byte) % 256 })
longer_stands w t records r left total h some count so_far more =
    let open_more : (left - 1 == 0) ≡ false = grind (arith, nat_tests) in
    let len = length_push records r in
    let first = block_len-append records (r ∷ []) some in
    let summed : sum (bytes_of (records ++ r ∷ [])) ≡ sum (bytes_of records) + r.byte = ap sum (map_push (λ (x : LineByte). x.byte) records r) ∙ fold_push (λ (a : ℕ) (x : ℕ). a + x) 0 (bytes_of records) r.byte in
    record { place = rw open_more (sym h.stands); left = rw h.opened (omega arith); sum_so_far = λ some. rw h.opened (grind arith) }

pub stands_push : (t : List LineByte) (r : LineByte) (b : OpenBlock) → Stands t b → b.left ≢ 1 → r.byte < 256 → Stands (t ++ r ∷ []) (grown b r.byte)
stands_push t r b h more byte = by (b.left == 0) refl b.wire refl
  where
    by : (none : Bool) → (b.left == 0) ≡ none → (w : Wire) → b.wire ≡ w → Stands (t ++ r ∷ []) (grown b r.byte)
    by true e Controller w = rw (e, w) (begun_stands Controller (t ++ r ∷ []) r (opens_command t r (rw (e, w) at (sym h.place))) byte)
    by true e Deck w = rw (e, w) (begun_stands Deck (t ++ r ∷ []) r (opens_reply t r (rw (e, w) at (sym h.place))) byte)
    by false e Controller w =
        let place : place_of t ≡ InCommand = rw (e, w) at (sym h.place) in
        let count = rw place at h.left in
        rw (e, w) (longer_stands Controller (t ++ r ∷ []) t r b.left b.sum (goes_on_command t r place (grind (arith, nat_tests))) (begun_some t b h (grind (arith, nat_tests)))
        count (rw place at (h.sum_so_far (grind (arith, nat_tests)))) (grind (arith, nat_tests)))
    by false e Deck w =
        let place : place_of t ≡ InReply = rw (e, w) at (sym h.place) in
        let count = rw place at h.left in
        rw (e, w) (longer_stands Deck (t ++ r ∷ []) (drop (block_len t) t) r b.left b.sum (goes_on_reply t r place) (reply_some t place)
        count (rw place at (h.sum_so_far (grind (arith, nat_tests)))) (grind (arith, nat_tests)))
