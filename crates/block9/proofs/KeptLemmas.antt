-- After a record that breaks no line of the table, the records still keep the rules.
use Rattle.block9.proofs.Words.{[], after_command, Command, Bool, closed_of, ends_block, false, IsTailWith, IsKept, IsTail, last_time, LineByte, List, None, open_at, Option, pairing}
use Rattle.block9.proofs.Words.{place_of, refl, Some, true, ◌++◌, ◌∷◌, ◌≡◌, ◌≤◌}
use Rattle.block9.proofs.CutLemmas.{exchange_kept, tail_kept}
use Rattle.block9.proofs.StepLemmas.{closes, commands, held_tail, reply_now, tail_held, waits}
use Rattle.block9.specs.declared.line_rules.LineRules.{LineRules}

module _ (rules : LineRules) where
  -- a record that breaks no line of the table, after a tail
  pub quiet_kept : (t : List LineByte) (r : LineByte) → IsTail rules t → last_time t ≤ r.time_us → pairing rules t r ≡ None → IsKept rules (t ++ r ∷ [])
  quiet_kept t r h later quiet = let held = tail_held rules t h in by (ends_block (open_at (place_of t) t)) refl held.0 held.1
    where
      by : (b : Bool) → ends_block (open_at (place_of t) t) ≡ b → (o : Option Command) → IsTailWith rules t o → IsKept rules (t ++ r ∷ [])
      by false e o held = tail_kept rules (t ++ r ∷ []) (held_tail rules (t ++ r ∷ []) o (waits rules t o r held later quiet e).0)
      by true e None held = let c = commands rules t r held later quiet e in tail_kept rules (t ++ r ∷ []) (after_command _ c.0 c.1)
      by true e (Some c) held = let now = reply_now rules t c held e in exchange_kept rules (t ++ r ∷ []) (closed_of t c now.1.block) (closes rules t now.0 c r now.1 later quiet e)
