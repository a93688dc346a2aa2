-- Blocks on a wire, one record more or less.
use Rattle.block9.proofs.Words.{[], ap, arith, Block, block_len, block_of, body_of, byte_gap, bytes_of, drop, drop_at, first_time, IsLinked, IsWhole, last_time, length}
use Rattle.block9.proofs.Words.{length-append, length-map, LineByte, List, refl, same_from_push, spelling, Spells, sum, sym, take, take_at, Wire, ℕ, ◌%◌, ◌*◌, ◌++◌, ◌+◌, ◌/◌}
use Rattle.block9.proofs.Words.{◌<◌, ◌↔◌, ◌∙◌, ◌∷◌, ◌≡◌, ◌≤◌}

-- the wire, the time and the gap of a record that goes on with a block
abbrev pub GoesOn : Wire → List LineByte → LineByte → Type 0
GoesOn w records r = (r.wire ≡ w) × (last_time records ≤ r.time_us) × (r.time_us ≤ last_time records + byte_gap)

pub linked_push : (w : Wire) (a : LineByte) (records : List LineByte) (r : LineByte)
    → IsLinked w ((a ∷ records) ++ r ∷ []) ↔ (IsLinked w (a ∷ records) × GoesOn w (a ∷ records) r)
linked_push w a [] r = (λ h. (h.0, (h.3, h.1, h.2)), λ h. (h.0, h.1.1, h.1.2, h.1.0))
linked_push w a (b ∷ records) r =
    let more = linked_push w b records r in (λ h. let m = more.0 h.3 in ((h.0, h.1, h.2, m.0), m.1), λ h. (h.0.0, h.0.1, h.0.2, more.1 (h.0.3, h.1)))

-- what the first byte of a complete block says: how many data bytes there are, the group, and so how many records
pub whole_first : (w : Wire) (a : LineByte) (rest : List LineByte) (b : Block) → IsWhole w (a ∷ rest) b
    → (a.byte % 16 ≡ length b.bytes.items) × (a.byte / 16 ≡ b.group) × (length (a ∷ rest) ≡ length b.bytes.items + 3)
whole_first w a rest b h =
    let first : a.byte ≡ 16 * b.group + length b.bytes.items = cc (h.spelled.spelled) in
    let few = h.spelled.block.data_bytes in
    let lens : length (bytes_of (a ∷ rest)) ≡ length (spelling b) = ap length h.spelled.spelled in
    (omega arith, omega arith, omega (arith, lens, length-map (a ∷ rest) (λ (r : LineByte). r.byte), length-append b.bytes.items (sum (body_of b) % 256 ∷ [])))

pub whole_len : (w : Wire) (records : List LineByte) (b : Block) → IsWhole w records b → length records ≡ block_len records
whole_len w [] b h = refl
whole_len w (a ∷ rest) b h = let f = whole_first w a rest b h in omega arith

pub whole_long : (w : Wire) (records : List LineByte) (b : Block) → IsWhole w records b → 3 ≤ length records
whole_long w [] b h = cc (h.spelled.spelled)
whole_long w (a ∷ rest) b h = let f = whole_first w a rest b h in omega arith

pub block_len-append : (xs ys : List LineByte) → 0 < length xs → block_len (xs ++ ys) ≡ block_len xs
block_len-append xs ys h = grind arith

-- two lists that begin with parts of one length have these parts in common
pub same_parts : {X : Type 0} (a b x y : List X) → length a ≡ length b → a ++ x ≡ b ++ y → (a ≡ b) × (x ≡ y)
same_parts a b x y h e = (
  sym (take_at a x (length a) refl) ∙ ap (λ l. take (length a) l) e ∙ take_at b y (length a) (sym h),
  sym (drop_at a x (length a) refl) ∙ ap (λ l. drop (length a) l) e ∙ drop_at b y (length a) (sym h),
)

-- a block's body gives it back
pub block_of-body_of : (b : Block) → length b.bytes.items ≤ 15 → block_of (body_of b) ≡ b
block_of-body_of b h = ap (λ (g : ℕ). let r : Block = record { group = g; code = b.code; bytes = b.bytes } in r) (omega arith)

-- two blocks that one list spells are one
pub spelled_once : (bytes : List ℕ) (a b : Block) → Spells bytes a → Spells bytes b → a ≡ b
spelled_once bytes a b ha hb =
    let bodies = (same_from_push (body_of a) (body_of b) _ _ (sym ha.spelled ∙ hb.spelled)).0 in
    sym (block_of-body_of a ha.block.data_bytes) ∙ ap block_of bodies ∙ block_of-body_of b hb.block.data_bytes

-- a complete block is no beginning of another one
pub whole_parts : (w : Wire) (c d x y : List LineByte) (a b : Block) → IsWhole w c a → IsWhole w d b → c ++ x ≡ d ++ y → (c ≡ d) × (x ≡ y) × (a ≡ b)
whole_parts w c d x y a b hc hd e =
    let same : block_len (c ++ x) ≡ block_len (d ++ y) = ap block_len e in
    let parts = same_parts c d x y (grind (arith, whole_len w c a hc, whole_long w c a hc, whole_len w d b hd, whole_long w d b hd)) e in
    (parts.0, parts.1, spelled_once (bytes_of d) a b (rw parts.0 at hc.spelled) hd.spelled)

-- the first record stays the first
pub first_time-push_any : (records : List LineByte) (r : LineByte) → 0 < length records → first_time (records ++ r ∷ []) ≡ first_time records
first_time-push_any records r h = grind arith
