-- The CSV records of a text as head and tail, and what a read of one does to those that are left.
use Rattle.capture9.proofs.Words.{[], add-one, ap, arith, Bool, Config, default_config, field_after, fields_after, IfSome, IsPlain, length, List, next_record, NextIs, None}
use Rattle.capture9.proofs.Words.{Option, option_map, Read, Reader, ReadRecord, ReadsNext, records_at, records_from, records_next, refl, Some, State, step, suc, TakesFields}
use Rattle.capture9.proofs.Words.{unread_records, ℕ, ◌+◌, ◌<◌, ◌∷◌, ◌≡◌, ◌⊎◌}

-- a record took bytes, or it was the last and none are left
record Falls (bytes : List ℕ) (p : Read) : Type 0 where
  falls : (length p.2 < length bytes) ⊎ ((p.1 ≡ State.StartRecord) × (p.2 ≡ []))

falls-more : (c : ℕ) (bytes : List ℕ) (p : Read) → Falls bytes p → Falls (c ∷ bytes) p
falls-more c bytes p h = record { falls = grind (arith, h.falls) }

next_falls : (cfg : Config) (s : State) (fields : List (List ℕ)) (field bytes : List ℕ) (p : Read)
    → next_record cfg s fields field bytes ≡ Some p → Falls bytes p
unfolding next_record
next_falls cfg s fields field [] p e = record { falls = grind arith }
next_falls cfg s fields field (c ∷ rest) p e =
    grind (arith, falls-more, next_falls cfg (step cfg s c).0 (fields_after (step cfg s c).1 fields field) (field_after (step cfg s c).1 c field) rest p)

pub none_at_start : (cfg : Config) (n : ℕ) → records_from cfg n State.StartRecord [] ≡ []
unfolding records_from next_record
none_at_start cfg n = grind arith

-- what is left after a record has as many records in n turns as in m, where that holds of fewer bytes
after_read : (cfg : Config) (n m : ℕ) (s : State) (bytes : List ℕ) (p : Read) → next_record cfg s [] [] bytes ≡ Some p
    → (length p.2 < length bytes → records_from cfg n p.1 p.2 ≡ records_from cfg m p.1 p.2) → records_from cfg n p.1 p.2 ≡ records_from cfg m p.1 p.2
after_read cfg n m s bytes p e same = grind (arith, none_at_start, (next_falls cfg s [] [] bytes p e).falls)

same_next : (f g : State → List ℕ → List (List (List ℕ))) (o : Option Read) → ((p : Read) → o ≡ Some p → f p.1 p.2 ≡ g p.1 p.2)
    → records_next f o ≡ records_next g o
same_next f g None same = refl
same_next f g (Some p) same = ap (λ t. p.0 ∷ t) (same p refl)

-- more turns than there are bytes make no difference
enough_turns : (cfg : Config) (n m : ℕ) (s : State) (bytes : List ℕ) → length bytes < n → length bytes < m
    → records_from cfg n s bytes ≡ records_from cfg m s bytes
unfolding records_from
enough_turns cfg (suc n) (suc m) s bytes h k =
    same_next (records_from cfg n) (records_from cfg m) _
    (λ p e. after_read cfg n m s bytes p e (λ lt. enough_turns cfg n m p.1 p.2 (omega arith) (omega arith)))
enough_turns cfg n m s bytes h k = absurd (omega arith)

pub records_at-some : (s : State) (bytes : List ℕ) (p : Read) → next_record default_config s [] [] bytes ≡ Some p
    → records_at s bytes ≡ p.0 ∷ records_at p.1 p.2
unfolding records_from
records_at-some s bytes p e =
    let rest = after_read default_config (length bytes) (length p.2 + 1) s bytes p e (λ lt. enough_turns default_config _ _ p.1 p.2 lt (omega arith)) in
    rw (add-one (length bytes), e) (ap (λ t. p.0 ∷ t) rest)

records_at-none : (s : State) (bytes : List ℕ) → next_record default_config s [] [] bytes ≡ None → records_at s bytes ≡ []
unfolding records_from
records_at-none s bytes e = rw (add-one, e) refl

takes-next : (s s2 : State) (bytes after : List ℕ) (found : Bool) (fields : List (List ℕ)) (o : Option Read) → next_record default_config s [] [] bytes ≡ o
    → NextIs o found fields s2 after → TakesFields (records_at s bytes) found fields (Some (records_at s2 after))
takes-next s s2 bytes after found fields None e h = rw h (records_at-none s bytes e)
takes-next s s2 bytes after found fields (Some p) e h = rw (h.0, h.1, records_at-some s bytes p e, h.2, h.3) (records_at p.1 p.2, refl, refl)

-- what a read says of the bytes, said of the CSV records that are left
takes-fields : (s s2 : State) (before after : Option (List ℕ)) (found : Bool) (fields : List (List ℕ)) → ReadsNext default_config s before after found fields s2
    → IfSome (option_map (records_at s) before) (λ unread. TakesFields unread found fields (option_map (records_at s2) after))
takes-fields s s2 before after found fields h = grind (arith, takes-next)

-- what a read of a record says, said of the CSV records that are left
pub read-takes : {R : Type 0} (remaining : R → Option (List ℕ)) (old new : Reader R) (found : Bool) (fields : List (List ℕ)) → IsPlain old
    → ReadRecord remaining old new found fields
    → IfSome (unread_records remaining old) (λ unread. TakesFields unread found fields (unread_records remaining new))
read-takes remaining old new found fields plain read = rw read.1 (takes-fields old.state new.state _ _ found fields (rw plain.config at read.0))
