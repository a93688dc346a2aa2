-- A text that is written piece by piece.
use Rattle.report9.proofs.Words.{Appends, Appends-trans, AppendsPart, arith, Err, length, length-append, List, Ok, OnErr, OnOk, Option, Result, subst, sym, take, ℕ, ◌++◌, ◌+◌, ◌≡◌}
use Rattle.std.proofs.lemmas.Bool.{false≢true}
use Rattle.std.proofs.lemmas.List.{take-append-le}
use Rattle.std.proofs.Math.Seq.{take-append-add}
use Rattle.std.specs.Result.{IsErr}
use Rattle.report9.specs.Writing.{Writes}

-- a first part of the bytes after those that were all written
pub part_after : (old now new : Option (List ℕ)) (text bytes : List ℕ) → Appends old now text → AppendsPart now new bytes → AppendsPart old new (text ++ bytes)
part_after old now new text bytes h p =
    let e : take (length text + p.0) (text ++ bytes) ≡ text ++ take p.0 bytes = take-append-add text bytes p.0 in
    let len = p.1 in
    (length text + p.0, simp length-append (omega arith), subst (λ t. Appends old new t) (sym e) (Appends-trans old now new text (take p.0 bytes) h p.2))

-- what both clauses of a call say
pub writes : {A E : Type 0} (r : Result A E) (old new : Option (List ℕ)) (a : List ℕ) → OnOk r (Appends old new a) → OnErr r (AppendsPart old new a)
    → Writes a r old new
writes (Ok x) old new a whole part = whole
writes (Err e) old new a whole part = part

-- a first part, and an error that is handed on
pub failed : {A E : Type 0} (r : Result A E) (old new : Option (List ℕ)) (a : List ℕ) → IsErr r → AppendsPart old new a → Writes a r old new
failed (Ok x) old new a h part = absurd (false≢true h)
failed (Err e) old new a h part = part

-- a first part of the first piece is one of both
pub first_part : (old new : Option (List ℕ)) (a b : List ℕ) → AppendsPart old new a → AppendsPart old new (a ++ b)
first_part old new a b h =
    let n = length-append a b in let bound = h.1 in
    (h.0, omega (arith, n, bound), subst (λ l. Appends old new l) (sym (take-append-le h.0 a b h.1)) h.2)

-- after the whole first piece a second one
pub piece_after : {A E : Type 0} (r : Result A E) (old mid new : Option (List ℕ)) (a b : List ℕ) → Appends old mid a → Writes b r mid new
    → Writes (a ++ b) r old new
piece_after (Ok x) old mid new a b whole rest = Appends-trans old mid new a b whole rest
piece_after (Err e) old mid new a b whole rest = part_after old mid new a b whole rest
