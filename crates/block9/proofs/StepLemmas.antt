-- What a record that breaks no rule makes of a tail.
use Rattle.block9.proofs.Words.{answers_late, asks, common_steps, completes, InReply, leaves_open, ◌<◌}
use Rattle.block9.proofs.Words.{[], after_command, AfterCommand, ap, append_assoc, arith, block_len, block_of, bytes_of, closed_of, Command, Controller, Deck, Does, drop}
use Rattle.block9.proofs.Words.{ends_block, false, first_time, in_command, in_reply, inl, inr, IsAnswered, IsBegun, IsCommand, IsExchange, IsTailWith, IsTail, last_time, length}
use Rattle.block9.proofs.Words.{length-append, LineByte, List, None, nothing, open_at, Option, pairing, place_of, refl, Some, Outcome, tail_after, take, true, ◌++◌, ◌∙◌, ◌∷◌, ◌≡◌}
use Rattle.block9.proofs.Words.{◌≢◌, ◌≤◌}
use Rattle.block9.proofs.LineLemmas.{first_time-push_any, whole_len, whole_long}
use Rattle.block9.proofs.BlockSteps.{begun_push, whole_now}
use Rattle.block9.proofs.TailLemmas.{after_command_quiet, answered, idle_quiet, in_command_quiet, in_reply_quiet, place_in_command, place_of_command}
use Rattle.block9.specs.declared.line_rules.LineRules.{LineRules}

module _ (rules : LineRules) where
  -- ---- what is kept beside a tail

  -- something is kept beside each tail, and only beside a tail
  pub held_tail : (t : List LineByte) (o : Option Command) → IsTailWith rules t o → IsTail rules t
  held_tail t None (inl e) = nothing e
  held_tail t None (inr h) = in_command h
  held_tail t (Some c) (inl (b, h)) = after_command b c h
  held_tail t (Some c) (inr (reply, is)) = in_reply is.command reply is.block c is.split is.is_command is.begun is.in_time

  pub tail_held : (t : List LineByte) → IsTail rules t → (o : Option Command) × IsTailWith rules t o
  tail_held t (nothing e) = (None, inl e)
  tail_held t (in_command h) = (None, inr h)
  tail_held t (after_command b c h) = (Some c, inl (b, h))
  tail_held t (in_reply command reply b c e hc hd soon) =
      (Some c, inr (reply, record { command = command; block = b; split = e; is_command = hc; begun = hd; in_time = soon }))

  -- where the last record of a block is to come and no command is kept, a command is begun
  pub begun_now : (t : List LineByte) → IsTailWith rules t None → ends_block (open_at (place_of t) t) ≡ true → IsBegun Controller t
  begun_now t h ends = grind arith

  -- and where one is kept, its reply is begun
  pub reply_now : (t : List LineByte) (c : Command) → IsTailWith rules t (Some c) → ends_block (open_at (place_of t) t) ≡ true
      → (reply : List LineByte) × IsAnswered rules t c reply
  reply_now t c (inl (b, h)) ends = absurd (let place = place_of_command rules Controller t b h.whole in cc)
  reply_now t c (inr parts) ends = parts

  -- the reply begins in the tail after a command's length
  pub reply_begin : (t : List LineByte) (c : Command) → IsTailWith rules t (Some c) → ends_block (open_at (place_of t) t) ≡ true
      → (2 < block_len t) × (block_len t < length t) × (place_of t ≡ InReply)
  reply_begin t c held ends =
      let now = reply_now t c held ends in
      let parts = answered rules t now.0 c now.1 in
      let long = whole_long Controller now.1.command now.1.block now.1.is_command.whole in
      let rest : length (drop (block_len t) t) ≡ length now.0 = ap length parts.current in
      let front : length (take (block_len t) t) ≡ length now.1.command = ap length parts.first in
      let some = now.1.begun.begun in
      (grind (arith, common_steps), grind (arith, common_steps), parts.place)

  -- the reply's first record is not before the command's last one
  pub delay_fits : (t reply : List LineByte) (c : Command) → IsAnswered rules t c reply → last_time (take (block_len t) t) ≤ first_time (drop (block_len t) t)
  delay_fits t reply c is = let parts = answered rules t reply c is in rw (parts.first, parts.current) is.in_time.later

  -- ---- one more record

  -- what is kept inside a block: no command where one is begun, and the command whose reply is begun
  still_begun : (t : List LineByte) → IsBegun Controller t → IsTailWith rules t None × (place_of t ≢ AfterCommand)
  still_begun t h = (inr h, let place = place_in_command rules Controller t h in λ p. cc)

  still_answered : (t reply : List LineByte) (c : Command) → IsAnswered rules t c reply → IsTailWith rules t (Some c) × (place_of t ≢ AfterCommand)
  still_answered t reply c is = (inr (reply, is), let place = (answered rules t reply c is).place in λ p. cc)

  -- a record that does not end its block
  pub waits : (t : List LineByte) (o : Option Command) (r : LineByte) → IsTailWith rules t o → last_time t ≤ r.time_us → pairing rules t r ≡ None
      → ends_block (open_at (place_of t) t) ≡ false
      → IsTailWith rules (t ++ r ∷ []) o × (place_of (t ++ r ∷ []) ≢ AfterCommand)
  waits t None r (inl e) later quiet ends = rw e (still_begun (r ∷ []) ((idle_quiet rules r).0 (rw e at quiet)))
  waits t None r (inr h) later quiet ends =
      let goes_on = ((in_command_quiet rules t r h later).0 quiet).0 in
      still_begun (t ++ r ∷ []) ((begun_push Controller t r h.begun).1 (h, goes_on, rw (place_in_command rules Controller t h) at ends))
  waits t (Some c) r (inl (b, h)) later quiet ends =
      let next = (after_command_quiet rules t r b h.whole later).0 quiet in
      still_answered (t ++ r ∷ []) (r ∷ []) c (record { command = t; block = b; split = refl; is_command = h; begun = next.0; in_time = next.1 })
  waits t (Some c) r (inr (reply, is)) later quiet ends =
      let parts = answered rules t reply c is in
      let goes_on = ((in_reply_quiet rules is.command reply t is.block c r parts later).0 quiet).0 in
      let first = first_time-push_any reply r is.begun.begun in
      still_answered (t ++ r ∷ []) (reply ++ r ∷ []) c (record {
        command = is.command;
        block = is.block;
        split = ap (λ l. l ++ r ∷ []) is.split ∙ append_assoc is.command reply (r ∷ []);
        is_command = is.is_command;
        begun = (begun_push Deck reply r is.begun.begun).1 (is.begun, goes_on, rw (parts.place, parts.current) at ends);
        in_time = record { later = rw first is.in_time.later; soon = λ counts. rw first (is.in_time.soon counts) };
      })

  -- a record that ends a command
  pub commands : (t : List LineByte) (r : LineByte) → IsTailWith rules t None → last_time t ≤ r.time_us → pairing rules t r ≡ None → ends_block (open_at (place_of t) t) ≡ true
      → (c : Command) × IsCommand rules (t ++ r ∷ []) (block_of (bytes_of t)) c
  commands t r held later quiet ends =
      let h = begun_now t held ends in
      let same : ends_block t ≡ true = rw (place_in_command rules Controller t h) at ends in
      let next = (in_command_quiet rules t r h later).0 quiet in
      let right = next.1 same in
      (right.1, record { whole = whole_now Controller t r h next.0 same right.0; meaning = right.2 })

  -- a record that ends a reply
  pub closes : (t reply : List LineByte) (c : Command) (r : LineByte) (is : IsAnswered rules t c reply) → last_time t ≤ r.time_us
      → pairing rules t r ≡ None → ends_block (open_at (place_of t) t) ≡ true → IsExchange rules (t ++ r ∷ []) (closed_of t c is.block)
  closes t reply c r is later quiet ends =
      let parts = answered rules t reply c is in
      let now : ends_block reply ≡ true = rw (parts.place, parts.current) at ends in
      let next = (in_reply_quiet rules is.command reply t is.block c r parts later).0 quiet in
      let right = next.1 now in
      let first = first_time-push_any reply r is.begun.begun in
      let place = parts.place in
      record {
        asked = is.command;
        answered = reply ++ r ∷ [];
        split = ap (λ l. l ++ r ∷ []) is.split ∙ append_assoc is.command reply (r ∷ []);
        command = is.is_command;
        reply = rw (parts.place, parts.current) (whole_now Deck reply r is.begun next.0 now right.0);
        in_time = record { later = rw first is.in_time.later; soon = λ counts. rw first (is.in_time.soon counts) };
        time = grind arith;
        delay = rw (parts.first, parts.current) (omega arith);
        kind = rw (parts.place, parts.current) right.1;
        valid_time = rw (parts.place, parts.current) right.2;
      }

  -- a tail has at most 35 records: a command of 18 and all but the last of a reply
  pub block_len_low : (t : List LineByte) → block_len t ≤ 18
  block_len_low t = grind arith

  pub tail_short : (t : List LineByte) → IsTail rules t → length t ≤ 35
  tail_short t h = grind (arith, whole_len, block_len_low, length-append)

  -- what it leaves is a tail
  pub still_tail : (t : List LineByte) (r : LineByte) (o : Outcome) → Does rules t r o → IsTail rules (tail_after t r o)
  still_tail t r leaves_open h = h.0
  still_tail t r answers_late h = h.0
  still_tail t r asks h = after_command h.0 h.1 h.2
  still_tail t r (completes e) h = nothing refl
