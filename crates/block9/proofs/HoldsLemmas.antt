-- The reason that the table gives after a tail is one that holds.
use Rattle.block9.proofs.Words.{[], after_command, AfterCommand, arith, block_len, block_of, ByteGap, bytes_of, Command, command_of, CommandBeforeReply, CommandInsideReply}
use Rattle.block9.proofs.Words.{Controller, Deck, drop, ends_block, fault_at, Holds, in_command, in_reply, InCommand, inl, inr, InReply, InvalidCommandTime, InvalidReplyTime}
use Rattle.block9.proofs.Words.{Counts, early_fault, None, option_or, ReplyLimit}
use Rattle.block9.proofs.Words.{IsAnswered, IsBegun, IsTail, IsWholeCommand, last_time, LateReply, LineByte, List, nat_tests, NoReply, nothing, pairing, Reason, refl}
use Rattle.block9.proofs.Words.{ReplyInsideCommand, ReplyWithoutCommand, Some, sum, take, true, WrongGroup, WrongReply, WrongSum, ◌%◌, ◌-◌, ◌≡◌, ◌≤◌}
use Rattle.block9.proofs.LineLemmas.{GoesOn}
use Rattle.block9.proofs.BlockSteps.{whole_now}
use Rattle.block9.proofs.TailLemmas.{answered, place_in_command, place_of_command}
use Rattle.block9.specs.declared.line_rules.LineRules.{LineRules}

module _ (rules : LineRules) where
  -- nothing is open
  idle_holds : (r : LineByte) (x : Reason) → pairing rules [] r ≡ Some x → Holds rules x [] r
  idle_holds r ReplyWithoutCommand h = (refl, grind (arith, nat_tests))
  idle_holds r WrongGroup h = (inl refl, grind (arith, nat_tests))
  idle_holds r x h = absurd (grind (arith, nat_tests))

  -- inside a command
  in_command_holds : (t : List LineByte) (r : LineByte) (x : Reason) → IsBegun Controller t → last_time t ≤ r.time_us → fault_at rules InCommand t r ≡ Some x
      → Holds rules x t r
  in_command_holds t r ReplyInsideCommand begun later h = (begun, grind (arith, nat_tests))
  in_command_holds t r ByteGap begun later h = ((t, inl (refl, begun)), grind (arith, nat_tests))
  in_command_holds t r WrongSum begun later h = (t, inl (refl, begun), grind (arith, nat_tests), λ e. grind (arith, nat_tests))
  in_command_holds t r InvalidCommandTime begun later h =
      let end : (ends_block t ≡ true) × (r.byte ≡ sum (bytes_of t) % 256) × GoesOn Controller t r = grind (arith, nat_tests) in
      (block_of (bytes_of t), whole_now Controller t r begun end.2 end.0 end.1, grind (arith, nat_tests))
  in_command_holds t r x begun later h = absurd (grind (arith, nat_tests))

  -- after a complete command
  by_limit : (limit : ReplyLimit) (t : List LineByte) (r : LineByte) (x : Reason) → rules.reply_limit ≡ limit → IsWholeCommand rules t
      → option_or (early_fault limit AfterCommand t r) None ≡ Some x → Holds rules x t r
  by_limit limit t r CommandBeforeReply e whole h = (whole, grind (arith, nat_tests), grind (arith, nat_tests))
  by_limit limit t r NoReply e whole h = (whole, grind (arith, nat_tests), grind (arith, nat_tests))
  by_limit Counts t r LateReply e whole h = (e, record { asked = whole; wire = grind (arith, nat_tests); late = grind (arith, nat_tests) })
  by_limit limit t r WrongGroup e whole h = (inr whole, grind (arith, nat_tests))
  by_limit limit t r x e whole h = absurd (grind (arith, nat_tests))

  after_command_holds : (t : List LineByte) (r : LineByte) (x : Reason) → IsWholeCommand rules t → fault_at rules AfterCommand t r ≡ Some x → Holds rules x t r
  after_command_holds t r x whole h = by_limit rules.reply_limit t r x refl whole h

  -- inside a reply
  in_reply_holds : (t reply : List LineByte) (r : LineByte) (x : Reason) (c : Command) (is : IsAnswered rules t c reply) → last_time t ≡ last_time reply
      → last_time t ≤ r.time_us
      → drop (block_len t) t ≡ reply → block_of (bytes_of (take (block_len t - 1) t)) ≡ is.block → command_of rules.rate is.block ≡ Some c → fault_at rules InReply t r ≡ Some x → Holds rules x t r
  in_reply_holds t reply r CommandInsideReply c is last later current block meant h = ((c, reply, is), grind (arith, nat_tests))
  in_reply_holds t reply r ByteGap c is last later current block meant h = ((reply, inr (c, is)), grind (arith, nat_tests))
  in_reply_holds t reply r WrongSum c is last later current block meant h = (reply, inr (c, is), grind (arith, nat_tests), λ e. grind (arith, nat_tests))
  in_reply_holds t reply r WrongReply c is last later current block meant h =
      let end : (ends_block reply ≡ true) × (r.byte ≡ sum (bytes_of reply) % 256) × GoesOn Deck reply r = grind (arith, nat_tests) in
      (is.block, c, _, (reply, is, refl, whole_now Deck reply r is.begun end.2 end.0 end.1), grind (arith, nat_tests))
  in_reply_holds t reply r InvalidReplyTime c is last later current block meant h =
      let end : (ends_block reply ≡ true) × (r.byte ≡ sum (bytes_of reply) % 256) × GoesOn Deck reply r = grind (arith, nat_tests) in
      (is.block, c, _, (reply, is, refl, whole_now Deck reply r is.begun end.2 end.0 end.1), grind (arith, nat_tests))
  in_reply_holds t reply r x c is last later current block meant h = absurd (grind (arith, nat_tests))

  -- the table's answer holds
  pub table_holds : (t : List LineByte) (r : LineByte) (x : Reason) → IsTail rules t → last_time t ≤ r.time_us → pairing rules t r ≡ Some x → Holds rules x t r
  table_holds t r x (nothing e) later h = rw e (idle_holds r x (rw e at h))
  table_holds t r x (in_command begun) later h = in_command_holds t r x begun later (rw (place_in_command rules Controller t begun) at h)
  table_holds t r x (after_command b c command) later h = after_command_holds t r x (b, c, command) (rw (place_of_command rules Controller t b command.whole) at h)
  table_holds t r x (in_reply command reply b c e hc hd soon) later h =
      let is : IsAnswered rules t c reply = record { command = command; block = b; split = e; is_command = hc; begun = hd; in_time = soon } in
      let parts = answered rules t reply c is in
      in_reply_holds t reply r x c is parts.last later parts.current parts.block parts.meant (rw parts.place at h)
