-- Which bytes spell a block.
use Rattle.std.specs.List.{fold}
use Rattle.block9.proofs.Words.{common_steps, drop, first_time, refl, slice_index_or, take, ◌<◌, ◌≤◌}
use Rattle.block9.proofs.Words.{[], ap, arith, Block, body_of, last_time, length, LineByte, List, same_from_push, slice_get, Some, Spells, suc, sum, sym, ℕ, ◌%◌, ◌*◌, ◌++◌, ◌+◌}
use Rattle.block9.proofs.Words.{◌-◌, ◌∙◌, ◌∷◌, ◌≡◌}

-- bytes that spell a block are a body, as long as its first byte says, and its sum
pub spelled_by : (bytes body : List ℕ) (last first : ℕ) (b : Block) → bytes ≡ body ++ last ∷ [] → Some first ≡ slice_get body 0 → Spells bytes b
    → (length body ≡ first % 16 + 2) × (last ≡ sum body % 256)
spelled_by bytes body last first b e f h =
    let same = same_from_push body (body_of b) last (sum (body_of b) % 256) (sym e ∙ h.spelled) in
    let bodies = same.0 in
    let head : first ≡ 16 * b.group + length b.bytes.items = cc in
    let count : length body ≡ length (body_of b) = ap length bodies in
    let few = h.block.data_bytes in
    (omega arith, same.1 ∙ ap (λ (xs : List ℕ). sum xs % 256) (sym bodies))

-- the last record's time
pub last_time-last : (records : List LineByte) (last : LineByte) → Some last ≡ slice_get records (length records - 1) → last.time_us ≡ last_time records
last_time-last [] last e = cc
last_time-last (a ∷ []) last e = let same : last ≡ a = cc in ap (λ (r : LineByte). r.time_us) same
last_time-last (a ∷ b ∷ records) last e =
    let count : length (a ∷ b ∷ records) - 1 ≡ suc (length (b ∷ records) - 1) = omega arith in
    last_time-last (b ∷ records) last (e ∙ ap (λ (n : ℕ). slice_get (a ∷ b ∷ records) n) count)

-- a sum that begins with another number
pub sum_from : (start : ℕ) (bytes : List ℕ) → fold (λ a x. a + x) start bytes ≡ start + sum bytes
sum_from start [] = omega arith
sum_from start (byte ∷ bytes) = let more = sum_from (start + byte) bytes in let all = sum_from (0 + byte) bytes in omega arith

-- the times of records by their places: of the last one, of the first after some, and of the last of some
pub last_at : (records : List LineByte) (blank : LineByte) → 0 < length records → (slice_index_or records (length records - 1) blank).time_us ≡ last_time records
last_at [] blank some = absurd (omega arith)
last_at (a ∷ []) blank some = refl
last_at (a ∷ b ∷ records) blank some =
    let count : length (a ∷ b ∷ records) - 1 ≡ suc (length (b ∷ records) - 1) = omega arith in
    ap (λ (n : ℕ). (slice_index_or (a ∷ b ∷ records) n blank).time_us) count ∙ last_at (b ∷ records) blank (omega arith)

pub first_at : (records : List LineByte) (n : ℕ) (blank : LineByte) → n < length records → (slice_index_or records n blank).time_us ≡ first_time (drop n records)
first_at records n blank within = grind (arith, common_steps)

pub last_of_first : (records : List LineByte) (n : ℕ) (blank : LineByte) → 0 < n → n ≤ length records
    → (slice_index_or records (n - 1) blank).time_us ≡ last_time (take n records)
last_of_first records n blank some within =
    let front = last_at (take n records) blank (grind (arith, common_steps)) in grind (arith, common_steps)
