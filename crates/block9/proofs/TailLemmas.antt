-- What the table says at each kind of tail: where it says that a record breaks no rule.
use Rattle.block9.proofs.Words.{[], AfterCommand, ap, arith, Block, block_len, block_of, bytes_of, Command, command_of, Controller, Deck, drop, drop_at, ends_block, get_or, takes}
use Rattle.block9.proofs.Words.{Counts, fault_at, LeftAside, ReplyLimit}
use Rattle.block9.proofs.Words.{InCommand, InReply, is_reply_time_valid, IsAnswered, IsBegun, IsCommand, IsInTime, IsWhole, last_time, length, length-append, LineByte, List}
use Rattle.block9.proofs.Words.{nat_tests, None, pairing, place_of, refl, Some, subst, sum, sym, take, take-append-le, take_all, take_at, take_more, true, Wire, ◌%◌, ◌++◌, ◌+◌}
use Rattle.block9.proofs.Words.{◌-◌, ◌<◌, ◌↔◌, ◌∙◌, ◌∷◌, ◌≡◌, ◌≤◌}
use Rattle.block9.proofs.LineLemmas.{block_len-append, GoesOn, whole_len, whole_long}
use Rattle.block9.proofs.BlockSteps.{whole_less}
use Rattle.block9.specs.declared.line_rules.LineRules.{LineRules}

module _ (rules : LineRules) where
  -- with nothing open
  pub idle_quiet : (r : LineByte) → pairing rules [] r ≡ None ↔ IsBegun Controller (r ∷ [])
  idle_quiet r = (λ h. grind (arith, nat_tests), λ h. grind (arith, nat_tests))

  -- inside a command, which has a meaning at its end
  pub place_in_command : (w : Wire) (t : List LineByte) → IsBegun w t → place_of t ≡ InCommand
  place_in_command w t h = let b = h.begun in let s = h.short in grind (arith, nat_tests)

  pub in_command_quiet : (t : List LineByte) (r : LineByte) → IsBegun Controller t → last_time t ≤ r.time_us
      → pairing rules t r ≡ None ↔ (GoesOn Controller t r × (ends_block t ≡ true
      → (r.byte ≡ sum (bytes_of t) % 256) × (c : Command) × (command_of rules.rate (block_of (bytes_of t)) ≡ Some c)))
  in_command_quiet t r h later = rw (place_in_command Controller t h)
      (λ quiet. (grind (arith, nat_tests), λ ends. grind (arith, nat_tests)), λ k. grind (arith, nat_tests))

  -- after a complete command
  pub place_of_command : (w : Wire) (t : List LineByte) (b : Block) → IsWhole w t b → place_of t ≡ AfterCommand
  place_of_command w t b h = let len = whole_len w t b h in let long = whole_long w t b h in grind (arith, nat_tests)

  pub after_command_quiet : (t : List LineByte) (r : LineByte) (b : Block) → IsWhole Controller t b → last_time t ≤ r.time_us
      → pairing rules t r ≡ None ↔ (IsBegun Deck (r ∷ []) × IsInTime rules t (r ∷ []))
  after_command_quiet t r b h later = rw (place_of_command Controller t b h) (by rules.reply_limit refl)
    where
      by : (limit : ReplyLimit) → rules.reply_limit ≡ limit → fault_at rules AfterCommand t r ≡ None ↔ (IsBegun Deck (r ∷ []) × IsInTime rules t (r ∷ []))
      by Counts e = (
        λ quiet. let told = rw e at quiet in (grind (arith, nat_tests), record { later = later; soon = λ counts. grind (arith, nat_tests) }),
        λ k. let soon = k.1.soon e in rw e (grind (arith, nat_tests)),
      )
      by LeftAside e = (
        λ quiet. let told = rw e at quiet in (grind (arith, nat_tests), record { later = later; soon = λ counts. absurd (let no : LeftAside ≡ Counts = sym e ∙ counts in cc) }),
        λ k. rw e (grind (arith, nat_tests)),
      )

  -- inside a reply
  pub last_time-append : (xs ys : List LineByte) → 0 < length ys → last_time (xs ++ ys) ≡ last_time ys
  last_time-append [] ys h = refl
  last_time-append (a ∷ []) ys h = grind arith
  last_time-append (a ∷ b ∷ xs) ys h = last_time-append (b ∷ xs) ys h

  -- the parts of a tail inside a reply, and the command that the rule on meaning reads off it
  pub record InReplyOf (command reply tail : List LineByte) (b : Block) (c : Command) : Type 0 where
    pub place : place_of tail ≡ InReply
    pub current : drop (block_len tail) tail ≡ reply
    pub first : take (block_len tail) tail ≡ command
    pub block : block_of (bytes_of (take (block_len tail - 1) tail)) ≡ b
    pub meant : command_of rules.rate b ≡ Some c
    pub last : last_time tail ≡ last_time reply

  -- the block of the command with which a tail begins
  pub asked_block : (command reply : List LineByte) (b : Block) → IsWhole Controller command b
      → block_of (bytes_of (take (block_len (command ++ reply) - 1) (command ++ reply))) ≡ b
  asked_block command reply b h =
      let len = whole_len Controller command b h in
      let long = whole_long Controller command b h in
      let whole : block_len (command ++ reply) ≡ length command = block_len-append command reply (omega arith) ∙ sym len in
      let last = length command - 1 in
      let apart : command ≡ take last command ++ get_or command last (record { time_us = 0; wire = Deck; byte = 0 }) ∷ [] =
      sym (take_all (last + 1) command (omega arith)) ∙ take_more command last (record { time_us = 0; wire = Deck; byte = 0 }) (omega arith) in
      let body = (whole_less Controller _ _ b (subst (λ (l : List LineByte). IsWhole Controller l b) apart h)).block in
      let front : take (block_len (command ++ reply) - 1) (command ++ reply) ≡ take last command =
      ap (λ n. take (n - 1) (command ++ reply)) whole ∙ take-append-le last command reply (omega arith) in
      ap (λ l. block_of (bytes_of l)) front ∙ sym body

  pub in_reply_of : (command reply tail : List LineByte) (b : Block) (c : Command) → tail ≡ command ++ reply → IsCommand rules command b c → 0 < length reply
      → InReplyOf command reply tail b c
  in_reply_of command reply tail b c split h some =
      let len = whole_len Controller command b h.whole in
      let long = whole_long Controller command b h.whole in
      let whole : block_len (command ++ reply) ≡ length command = block_len-append command reply (omega arith) ∙ sym len in
      let all = length-append command reply in
      rw split (record {
        place = grind (arith, nat_tests);
        current = ap (λ n. drop n (command ++ reply)) whole ∙ drop_at command reply (length command) refl;
        first = ap (λ n. take n (command ++ reply)) whole ∙ take_at command reply (length command) refl;
        block = asked_block command reply b h.whole;
        meant = h.meaning;
        last = last_time-append command reply some;
      })

  pub answered : (t reply : List LineByte) (c : Command) (is : IsAnswered rules t c reply) → InReplyOf is.command reply t is.block c
  answered t reply c is = in_reply_of is.command reply t is.block c is.split is.is_command is.begun.begun

  pub in_reply_quiet : (command reply t : List LineByte) (b : Block) (c : Command) (r : LineByte) → InReplyOf command reply t b c → last_time t ≤ r.time_us
      → pairing rules t r ≡ None
      ↔ (GoesOn Deck reply r × (ends_block reply ≡ true → (r.byte ≡ sum (bytes_of reply) % 256) × (takes rules.replies b c (block_of (bytes_of reply)) ≡ true)
      × (is_reply_time_valid rules.rate c (block_of (bytes_of reply)) ≡ true)))
  in_reply_quiet command reply t b c r parts later = rw (parts.place, parts.current, parts.block, parts.meant)
      (λ quiet. (grind (arith, nat_tests), λ ends. grind (arith, nat_tests)), λ k. grind (arith, nat_tests))
