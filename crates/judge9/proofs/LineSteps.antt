-- How many records exchanges have, and what is written after other bytes.
use Rattle.judge9.proofs.Words.{[], ap, append-nil, Appends, Appends-trans, arith, Cut, Exchange, IsExchange, length, length-append, length-map, length_push, LineByte, LineRules, List, Option}
use Rattle.judge9.proofs.Words.{records_in, records_of, subst, ℕ, ◌*◌, ◌++◌, ◌+◌, ◌∷◌, ◌≡◌, ◌≤◌}

-- ---- how many records exchanges have

pub exchange_len : (rules : LineRules) (front : List LineByte) (e : Exchange) → IsExchange rules front e → length front ≡ records_of e
exchange_len rules front e h =
    let asked = simp length-map at (ap length h.command.whole.spelled.spelled) in
    let answered = simp length-map at (ap length h.reply.spelled.spelled) in
    omega (arith, ap length h.split, length-append h.asked h.answered, asked, answered)

pub cut_len : (rules : LineRules) (p : List LineByte) (es : List Exchange) (t : List LineByte) → Cut rules p es t → length p ≡ records_in es + length t
cut_len rules p [] t h = omega (arith, ap length h.0)
cut_len rules p (e ∷ es) t h = omega (arith, ap length h.2, length-append h.0 h.1, exchange_len rules h.0 e h.3, cut_len rules h.1 es t h.4)

-- the records of a cut, of which each exchange has 6 to 36
pub cut_counts : (rules : LineRules) (p : List LineByte) (es : List Exchange) (t : List LineByte) → Cut rules p es t
    → (length es * 6 + length t ≤ length p) × (length p ≤ length es * 36 + length t)
cut_counts rules p [] t h = (omega (arith, ap length h.0), omega (arith, ap length h.0))
cut_counts rules p (e ∷ es) t h =
    let more = cut_counts rules h.1 es t h.4 in
    let parts = length-append h.0 h.1 in
    let asked = h.3.command.whole.spelled.block.data_bytes in
    let answered = h.3.reply.spelled.block.data_bytes in
    let count = simp length_push at (exchange_len rules h.0 e h.3) in
    (omega (arith, ap length h.2), omega (arith, ap length h.2))

-- how many records exchanges have, one list after another
pub records_joined : (es fs : List Exchange) → records_in (es ++ fs) ≡ records_in es + records_in fs
records_joined [] fs = omega arith
records_joined (e ∷ es) fs = omega (arith, records_joined es fs)

-- ---- what is written after other bytes

pub none_after : (old now new : Option (List ℕ)) (text : List ℕ) → Appends old now text → Appends now new [] → Appends old new text
none_after old now new text h k = subst (λ t. Appends old new t) (append-nil text) (Appends-trans old now new text [] h k)
