-- The table's answer after a tail is the reason: none that holds is earlier, and where it gives none, none holds.
use Rattle.block9.proofs.Words.{[], ap, arith, Block, block_of, ByteGap, bytes_of, Command, command_of, CommandBeforeReply, CommandInsideReply, Controller, Deck, early_fault}
use Rattle.block9.proofs.Words.{AfterCommand, Counts, LeftAside, ReplyLimit}
use Rattle.block9.proofs.Words.{EndsReply, Holds, inl, inr, InReply, InvalidCommandTime, InvalidReplyTime, IsKept, IsReason, IsTail, last_time, LateReply, LineByte, List}
use Rattle.block9.proofs.Words.{nat_tests, None, NoReply, NoRun, Option, option_or, order, pairing, Reason, refl, reply_fault, ReplyInsideCommand, ReplyWithoutCommand, Some, sym}
use Rattle.block9.proofs.Words.{WrongGroup, WrongReply, WrongSum, ℕ, ◌++◌, ◌∙◌, ◌∷◌, ◌≡◌, ◌≤◌}
use Rattle.block9.proofs.BlockSteps.{whole_less}
use Rattle.block9.proofs.TailLemmas.{answered, place_in_command, place_of_command}
use Rattle.block9.proofs.CutLemmas.{kept_no_fault}
use Rattle.block9.proofs.KeptLemmas.{quiet_kept}
use Rattle.block9.proofs.HoldsLemmas.{table_holds}
use Rattle.block9.proofs.OrderLemmas.{first_holds, in_order_first, rank, rank_low}
use Rattle.block9.specs.declared.line_rules.LineRules.{LineRules}

module _ (rules : LineRules) where
  -- ---- where a reason holds, the table answers one that is not later

  -- the place of an answer in the order; no answer is after all
  abbrev rank_at : Option Reason → ℕ
  rank_at None = 13
  rank_at (Some x) = rank x

  -- a record that ends a reply, after the wire, the time and the group
  reply_told : (t : List LineByte) (r : LineByte) (b : Block) (c : Command) (answer : Block) → EndsReply rules t r b c answer
      → pairing rules t r ≡ option_or (early_fault rules.reply_limit InReply t r) (reply_fault rules b (Some c) answer)
  reply_told t r b c answer h =
      let parts = answered rules t h.0 c h.1 in
      let last = whole_less Deck h.0 r answer h.3 in
      rw (parts.place, parts.current, parts.block, parts.meant, h.2) (grind (arith, nat_tests))

  found : (y : Reason) (t : List LineByte) (r : LineByte) → Holds rules y t r → rank_at (pairing rules t r) ≤ rank y
  found ReplyWithoutCommand t r h = rw h.0 (grind (arith, nat_tests))
  found ReplyInsideCommand t r h = rw (place_in_command rules Controller t h.0) (grind (arith, nat_tests))
  found CommandBeforeReply t r h = rw (place_of_command rules Controller t h.0.0 h.0.2.whole) (grind (arith, nat_tests))
  found NoReply t r h = rw (place_of_command rules Controller t h.0.0 h.0.2.whole) (grind (arith, nat_tests))
  found CommandInsideReply t r h = rw (answered rules t h.0.1 h.0.0 h.0.2).place (grind (arith, nat_tests))
  found LateReply t r (counts, h) = let wire = h.wire in let late = h.late in rw (place_of_command rules Controller t h.asked.0 h.asked.2.whole, counts) (grind (arith, nat_tests))
  found ByteGap t r ((records, inl k), h) = rw (place_in_command rules Controller t (rw k.0 k.1)) (grind (arith, nat_tests))
  found ByteGap t r ((records, inr k), h) = rw (answered rules t records k.0 k.1).place (grind (arith, nat_tests))
  found WrongGroup t r (inl k, h) = rw k (grind (arith, nat_tests))
  found WrongGroup t r (inr k, h) = rw (place_of_command rules Controller t k.0 k.2.whole) (by rules.reply_limit)
    where
      by : (limit : ReplyLimit) → rank_at (option_or (early_fault limit AfterCommand t r) None) ≤ 7
      by Counts = grind (arith, nat_tests)
      by LeftAside = grind (arith, nat_tests)
  found WrongSum t r (records, inl k, count, wrong) = rw (k.0, place_in_command rules Controller records k.1) (let some = k.1.begun in grind (arith, nat_tests))
  found WrongSum t r (records, inr k, count, wrong) =
      let parts = answered rules t records k.0 k.1 in
      let current = parts.current in
      let some = k.1.begun.begun in
      rw parts.place (grind (arith, nat_tests))
  found InvalidCommandTime t r (b, whole, meant) =
      let last = whole_less Controller t r b whole in
      let none : command_of rules.rate (block_of (bytes_of t)) ≡ None = ap (command_of rules.rate) (sym last.block) ∙ meant in
      let ends = last.ends in
      rw (place_in_command rules Controller t last.begun) (grind (arith, nat_tests))
  found WrongReply t r (b, c, answer, ends, wrong) = rw (reply_told t r b c answer ends) (grind (arith, nat_tests))
  found InvalidReplyTime t r (b, c, answer, ends, wrong) = rw (reply_told t r b c answer ends) (grind (arith, nat_tests))
  found NoRun t r h = absurd h

  -- ---- the table and the reason

  -- the table's answer is the reason
  pub table_reason : (t : List LineByte) (r : LineByte) (x : Reason) → IsTail rules t → last_time t ≤ r.time_us → pairing rules t r ≡ Some x → IsReason rules t r x
  table_reason t r x tail later h = in_order_first (λ y. Holds rules y t r) x (table_holds rules t r x tail later h) (λ y k. rw h at (found y t r k))

  -- where the table has no answer no reason holds, and the other way round
  pub none_holds : (t : List LineByte) (r : LineByte) → pairing rules t r ≡ None → (y : Reason) → Holds rules y t r → ⊥
  none_holds t r h y k = let behind : 13 ≤ rank y = rw h at (found y t r k) in let low = rank_low y in omega arith

  -- ---- what the crates above cite

  -- a reason applies where the records with the next one are not kept
  pub some_reason : (t : List LineByte) (r : LineByte) → IsTail rules t → last_time t ≤ r.time_us → (IsKept rules (t ++ r ∷ []) → ⊥) → (x : Reason) × IsReason rules t r x
  some_reason t r tail later broken = by (pairing rules t r) refl
    where
      by : (o : Option Reason) → pairing rules t r ≡ o → (x : Reason) × IsReason rules t r x
      by None e = absurd (broken (quiet_kept rules t r tail later e))
      by (Some x) e = (x, table_reason t r x tail later e)

  -- and only there
  pub reason_broken : (t : List LineByte) (r : LineByte) (x : Reason) → IsTail rules t → IsReason rules t r x → IsKept rules (t ++ r ∷ []) → ⊥
  reason_broken t r x tail h kept =
      none_holds t r (kept_no_fault rules t r tail kept) x (first_holds (λ y. Holds rules y t r) order x h)
