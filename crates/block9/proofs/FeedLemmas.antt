-- What a pairer answers, and what is inside it, after one more record.
use Rattle.block9.proofs.Words.{IsAnswered, append_assoc, asked_on, asks, completed, completed_by, completes, IsOf, leaves_open}
use Rattle.block9.proofs.Words.{answers_late, BeginsLate, Idle, InCommand, is_late, is_soon, IsTail, late_on, Place, Wire}
use Rattle.block9.proofs.Words.{AfterCommand, Bool, InReply, IsOpenAfter, Open, place_at, place_on}
use Rattle.block9.specs.Pairer.IsOpenAfter.{after_command as is_after_command, in_command as is_in_command, in_reply as is_in_reply, nothing as is_nothing}
use Rattle.block9.proofs.Words.{IsWholeCommand, TellsLate}
use Rattle.block9.proofs.CutLemmas.{last_apart}
use Rattle.block9.proofs.Words.{Deck, early_fault, next_of, to_come, ends_block, grown, last_fed, length_push, OpenBlock, refl, ◌<◌, ◌≢◌}
use Rattle.block9.proofs.Words.{append-nil, ap, BeginsWith, Block, ◌↔◌, ◌∙◌, ◌+◌, length, length-append, block_len, inl, inr}
use Rattle.block9.proofs.Words.{[], arith, block_of, bytes_of, Closes, Command, command_of, Controller, Does, Exchange, false, ForSome, IsInside}
use Rattle.block9.proofs.Words.{IsCommand, IsExchange, IsTailWith, IsTurn, last_time, LineByte, List, nat_tests, None, open_at, Option, Paired, pairing}
use Rattle.block9.proofs.Words.{place_of, Reason, Refuses, reply_fault, Some, Outcome, sum, sym, tail_after, Takes, true, ℕ, ◌%◌, ◌++◌, ◌∷◌, ◌≡◌, ◌≤◌}
use Rattle.block9.proofs.LineLemmas.{block_len-append, whole_len, whole_long, whole_parts}
use Rattle.block9.proofs.TailLemmas.{answered, in_reply_of, last_time-append, place_in_command, place_of_command}
use Rattle.block9.proofs.StandsLemmas.{ends_by_left, inside_not_late, stands_after, stands_push}
use Rattle.block9.proofs.StepLemmas.{begun_now, closes, commands, held_tail, reply_now, tail_short, waits}
use Rattle.block9.proofs.ReasonLemmas.{reason_broken, table_reason}
use Rattle.block9.specs.declared.line_rules.LineRules.{LineRules}

module _ (rules : LineRules) where
  -- ---- what the last record of a block does

  pub ends_command : (t : List LineByte) (r : LineByte) (c : Command) → IsTailWith rules t None → last_time t ≤ r.time_us → IsTurn rules t r true
      → r.byte ≡ sum (bytes_of (open_at (place_of t) t)) % 256
      → command_of rules.rate (block_of (bytes_of (open_at (place_of t) t))) ≡ Some c → IsCommand rules (t ++ r ∷ []) (block_of (bytes_of (open_at (place_of t) t))) c
  ends_command t r c held later turn right meant =
      let place = place_in_command rules Controller t (begun_now rules t held (sym turn.1)) in
      let quiet : pairing rules t r ≡ None = grind (arith, nat_tests) in
      record { whole = rw place (commands rules t r held later quiet (sym turn.1)).1.whole; meaning = meant }

  -- what is kept beside a tail, by the wire whose turn it is
  pub none_held : (t : List LineByte) (b : OpenBlock) (e : Exchange) → IsInside rules t b e → b.wire ≡ Controller → IsTailWith rules t None
  none_held t b e h wire = rw wire at h.held

  pub command_held : (t : List LineByte) (b : OpenBlock) (e : Exchange) → IsInside rules t b e → b.wire ≡ Deck → IsTailWith rules t (Some e.command)
  command_held t b e h wire = rw wire at h.held

  -- a complete command is kept
  pub held_command : (t : List LineByte) (r : LineByte) (e : Exchange) → IsTailWith rules t None → last_time t ≤ r.time_us → IsTurn rules t r true
      → r.byte ≡ sum (bytes_of (open_at (place_of t) t)) % 256 → e.block ≡ block_of (bytes_of t) → command_of rules.rate (block_of (bytes_of t)) ≡ Some e.command
      → IsCommand rules (t ++ r ∷ []) e.block e.command × IsInside rules (t ++ r ∷ []) (to_come Deck) e
  held_command t r e held later turn right block meant =
      let place = place_in_command rules Controller t (begun_now rules t held (sym turn.1)) in
      let command : IsCommand rules (t ++ r ∷ []) e.block e.command = rw block (rw place at (ends_command t r e.command held later turn right (rw place meant))) in (
        command,
        record {
          held = inl (_, command);
          stands = stands_after (t ++ r ∷ []) (place_of_command rules Controller (t ++ r ∷ []) _ command.whole);
          asked = λ wire. (record { records = t ++ r ∷ []; reply = []; split = sym (append-nil (t ++ r ∷ [])); block = _; command = command }, refl);
        },
      )

  -- the reply whose last record is to come, and that its command has the block that is kept
  reply_under_way : (t : List LineByte) (b : OpenBlock) (e : Exchange) → IsInside rules t b e → b.wire ≡ Deck → ends_block (open_at (place_of t) t) ≡ true
      → (reply : List LineByte) × (is : IsAnswered rules t e.command reply) × (is.block ≡ e.block)
  reply_under_way t b e h wire ends =
      let now = reply_now rules t e.command (command_held t b e h wire) ends in
      let asked = h.asked wire in (
        now.0,
        now.1,
        (whole_parts Controller now.1.command asked.0.records now.0 asked.0.reply now.1.block asked.0.block now.1.is_command.whole asked.0.command.whole
            (sym now.1.split ∙ asked.0.split)).2 ∙ asked.1,
      )

  -- with a right sum, the table says at the end of a reply what it says of a reply to the command that is kept
  pub reply_says : (t : List LineByte) (b : OpenBlock) (e : Exchange) (r : LineByte) (m : Option Reason) → IsInside rules t b e → b.wire ≡ Deck → IsTurn rules t r true
      → r.byte ≡ sum (bytes_of (open_at (place_of t) t)) % 256
      → reply_fault rules e.block (Some e.command) (block_of (bytes_of (open_at (place_of t) t))) ≡ m → pairing rules t r ≡ m
  reply_says t b e r m h wire turn right meant =
      let now = reply_under_way t b e h wire (sym turn.1) in
      let parts = answered rules t now.0 e.command now.1 in
      let place = parts.place in
      let block = parts.block ∙ now.2 in
      let read : command_of rules.rate e.block ≡ Some e.command = ap (command_of rules.rate) (sym now.2) ∙ parts.meant in
      grind (arith, nat_tests)

  pub ends_exchange : (t : List LineByte) (b : OpenBlock) (r : LineByte) (old new : Exchange) → IsInside rules t b old → b.wire ≡ Deck → last_time t ≤ r.time_us
      → IsTurn rules t r true → r.byte ≡ sum (bytes_of (open_at (place_of t) t)) % 256 → Closes t old new
      → reply_fault rules old.block (Some old.command) (block_of (bytes_of (open_at (place_of t) t))) ≡ None → IsExchange rules (t ++ r ∷ []) new
  ends_exchange t b r old new h wire later turn right read none =
      let now = reply_under_way t b old h wire (sym turn.1) in
      rw (read, ← now.2) (closes rules t now.0 old.command r now.1 later (reply_says t b old r None h wire turn right none) (sym turn.1))

  -- ---- what is kept afterwards

  -- a time that is fed is not before the tail's last one
  pub fed_later : (t : List LineByte) (reason : Option Reason) (passed : Option ℕ) (r : LineByte) → reason ≡ None
      → ForSome (last_fed t reason passed) (λ time. time ≤ r.time_us) → last_time t ≤ r.time_us
  fed_later [] None passed r e h = omega arith
  fed_later (a ∷ t) None passed r e h = h (last_time (a ∷ t)) refl
  fed_later t (Some x) passed r e h = cc

  pub fed_in_order : (t : List LineByte) (reason : Option Reason) (passed : Option ℕ) (r : LineByte) (was old : Paired) → was ≡ old → reason ≡ None
      → was.last_time ≡ last_fed t reason passed → ForSome old.last_time (λ time. time ≤ r.time_us) → last_time t ≤ r.time_us
  fed_in_order t reason passed r was old same none told known = fed_later t reason passed r none (rw (← same, told) at known)

  -- what a record breaks by its turn, its time or its group is the first that it breaks
  pub early_told : (t : List LineByte) (r : LineByte) (x : Reason) → early_fault rules.reply_limit (place_of t) t r ≡ Some x → pairing rules t r ≡ Some x
  early_told t r x e = rw e refl

  -- the time that was fed last is the tail's last one, or is kept
  pub fed_waiting : (t : List LineByte) (r : LineByte) (passed : Option ℕ) → last_fed (t ++ r ∷ []) None passed ≡ Some r.time_us
  fed_waiting [] r passed = refl
  fed_waiting (a ∷ t) r passed = ap Some (last_time-append rules (a ∷ t) (r ∷ []) (omega arith))

  pub fed_step : (t : List LineByte) (r : LineByte) (o : Outcome) → last_fed (tail_after t r o) None (Some r.time_us) ≡ Some r.time_us
  fed_step t r leaves_open = fed_waiting t r (Some r.time_us)
  fed_step t r answers_late = fed_waiting t r (Some r.time_us)
  fed_step t r asks = fed_waiting t r (Some r.time_us)
  fed_step t r (completes e) = refl

  pub fed_refused : (t : List LineByte) (reason : Reason) (passed : Option ℕ) → last_fed t (Some reason) passed ≡ passed
  fed_refused [] reason passed = refl
  fed_refused (a ∷ t) reason passed = refl

  -- whether there is an exchange that the last record completed
  pub open_completed : (t : List LineByte) (r : LineByte) (passed : Option ℕ) (e : Exchange) → completed (t ++ r ∷ []) None passed e ≡ None
  open_completed [] r passed e = refl
  open_completed (a ∷ t) r passed e = refl

  pub completed_step : (t : List LineByte) (r : LineByte) (o : Outcome) (e : Exchange) → IsOf e o → completed (tail_after t r o) None (Some r.time_us) e ≡ completed_by o
  completed_step t r leaves_open e is = open_completed t r _ e
  completed_step t r answers_late e is = open_completed t r _ e
  completed_step t r asks e is = open_completed t r _ e
  completed_step t r (completes f) e is = ap Some (sym is)

  pub completed_refused : (t : List LineByte) (reason : Reason) (passed : Option ℕ) (e : Exchange) → completed t (Some reason) passed e ≡ None
  completed_refused [] reason passed e = refl
  completed_refused (a ∷ t) reason passed e = refl

  -- a block's next record leaves it on its wire
  grown_wire : (b : OpenBlock) (byte : ℕ) → (grown b byte).wire ≡ b.wire
  grown_wire b byte = grind (arith, nat_tests)

  -- the command with which a tail begins is the one with which it begins with one record more
  longer : {t : List LineByte} {c : Command} {b : Block} → (h : BeginsWith rules t c) × (h.block ≡ b) → (r : LineByte)
      → (h : BeginsWith rules (t ++ r ∷ []) c) × (h.block ≡ b)
  longer (h, same) r = (
    record {
      records = h.records;
      reply = h.reply ++ r ∷ [];
      split = ap (λ l. l ++ r ∷ []) h.split ∙ append_assoc h.records h.reply (r ∷ []);
      block = h.block;
      command = h.command;
    },
    same,
  )

  pub held_waiting : (t : List LineByte) (b : OpenBlock) (e : Exchange) (r : LineByte) (next : OpenBlock) → IsInside rules t b e → last_time t ≤ r.time_us
      → early_fault rules.reply_limit (place_of t) t r ≡ None → Some next ≡ next_of b r.byte → r.byte < 256
      → IsInside rules (t ++ r ∷ []) next e × (length t < 35) × IsTail rules (t ++ r ∷ []) × ((k : Block) (c : Command) → ¬ IsCommand rules (t ++ r ∷ []) k c)
  held_waiting t b e r next h later quiet is_next byte =
      let more : b.left ≢ 1 = λ one. grind (arith, nat_tests) in
      let same : next ≡ grown b r.byte = grind (arith, nat_tests) in
      let goes_on : ends_block (open_at (place_of t) t) ≡ false = let ends = ends_by_left t b h.stands in grind (arith, nat_tests) in
      let still = waits rules t (asked_on b.wire e.command) r h.held later (grind (arith, nat_tests)) goes_on in
      let tail = held_tail rules (t ++ r ∷ []) (asked_on b.wire e.command) still.0 in
      let wire : next.wire ≡ b.wire = rw same (grown_wire b r.byte) in (
        record {
          held = rw wire still.0;
          stands = rw same (stands_push t r b h.stands more byte);
          asked = λ deck. longer (h.asked (sym wire ∙ deck)) r;
        },
        (omega (arith, tail_short rules _ tail, length_push t r)),
        tail,
        λ k c is. still.1 (place_of_command rules Controller (t ++ r ∷ []) k is.whole),
      )

  -- whether it begins a late reply
  pub not_late : (t : List LineByte) (r : LineByte) → false ≡ is_late (place_of t) t r → ¬ BeginsLate rules t r
  not_late t r soon h =
      let late = h.late in
      let in_time : false ≡ late_on AfterCommand Deck (is_soon t r) = rw (place_of_command rules Controller t h.asked.0 h.asked.2.whole, h.wire) at soon in grind (arith, nat_tests)

  late_place : (p : Place) (w : Wire) (soon : Bool) → true ≡ late_on p w soon → (p ≡ AfterCommand) × (w ≡ Deck) × (soon ≡ false)
  late_place AfterCommand Deck true late = absurd (cc)
  late_place AfterCommand Deck false late = (refl, refl, refl)
  late_place AfterCommand Controller soon late = absurd (cc)
  late_place Idle w soon late = absurd (cc)
  late_place InCommand w soon late = absurd (cc)
  late_place InReply w soon late = absurd (cc)

  deck_turn : (b : OpenBlock) (first : Bool) → place_at b ≡ place_on Deck first → b.wire ≡ Deck
  deck_turn b first place = grind (arith, nat_tests)

  -- after a complete command
  complete : (t : List LineByte) (b : OpenBlock) (e : Exchange) → IsInside rules t b e → place_of t ≡ AfterCommand → IsWholeCommand rules t
  complete t b e h place = by (command_held t b e h (deck_turn b true (h.stands.place ∙ place)))
    where
      by : IsTailWith rules t (Some e.command) → IsWholeCommand rules t
      by (inl (block, is)) = (block, e.command, is)
      by (inr (reply, is)) = absurd (let inside = (answered rules t reply e.command is).place in cc)

  pub late_of_view : (was old : Paired) (r : LineByte) → was ≡ old → was.rules ≡ rules → (late : Bool) → TellsLate rules was.tail r late → TellsLate old.rules old.tail r late
  late_of_view was old r same at late told = rw (← same, at) told

  -- the record that ends a reply begins none
  pub exchange_not_late : (t : List LineByte) (r : LineByte) (e : Exchange) → IsExchange rules (t ++ r ∷ []) e → ¬ BeginsLate rules t r
  exchange_not_late t r e h late =
      let long = whole_long Deck h.answered e.reply h.reply in
      let apart = last_apart rules t h.asked h.answered r h.split (omega arith) in
      let some : 0 < length apart.0 = omega (arith, ap length apart.1, length_push apart.0 r) in
      let inside = (in_reply_of rules h.asked apart.0 t e.block e.command apart.2 h.command some).place in
      let after = place_of_command rules Controller t late.asked.0 late.asked.2.whole in
      cc

  -- the command that is open before a late reply
  abbrev IsAsked : List LineByte → Open → Type 0
  IsAsked t o = (o.asked ≡ length t) × IsOpenAfter rules t (record { command = o.command; asked = o.asked; answered = 0; wanted = 0; sum = 0 })

  pub open_before_late : (t : List LineByte) (b : Block) (c : Command) (o : Open) → IsCommand rules t b c → IsOpenAfter rules t o → IsAsked t o
  open_before_late t b c o whole (is_nothing e same) = absurd (let long = whole_long Controller t b whole.whole in omega (arith, ap length e))
  open_before_late t b c o whole (is_in_command begun same) =
      absurd (let after = place_of_command rules Controller t b whole.whole in let inside = place_in_command rules Controller t begun in cc)
  open_before_late t b c o whole (is_after_command block command is same) = rw same (refl, is_after_command block command is refl)
  open_before_late t b c o whole (is_in_reply command reply block asked split is begun soon same) =
      absurd (let after = place_of_command rules Controller t b whole.whole in let inside = (in_reply_of rules command reply t block asked split is begun.begun).place in cc)

  pub open_after_late : (t : List LineByte) (r : LineByte) (b : Block) (c : Command) (o : Open) → IsCommand rules t b c → IsOpenAfter rules (t ++ r ∷ []) o → IsAsked t o
  open_after_late t r b c o whole (is_nothing e same) = absurd (omega (arith, ap length e, length_push t r))
  open_after_late t r b c o whole (is_in_command begun same) =
      absurd (let len = whole_len Controller t b whole.whole in let long = whole_long Controller t b whole.whole in let short = begun.short in
      omega (arith, length_push t r, block_len-append t (r ∷ []) (omega arith)))
  open_after_late t r b c o whole (is_after_command block command is same) =
      absurd (let len = whole_len Controller t b whole.whole in let long = whole_long Controller t b whole.whole in let all = whole_len Controller (t ++ r ∷ []) block is.whole in
      omega (arith, length_push t r, block_len-append t (r ∷ []) (omega arith)))
  open_after_late t r b c o whole (is_in_reply command reply block asked split is begun soon same) =
      let first = (whole_parts Controller t command (r ∷ []) reply b block whole.whole is.whole split).0 in
      rw same (ap length (sym first), is_after_command block asked (rw (sym first) at is) (rw (sym first) refl))

  pub is_late_reply : (t : List LineByte) (b : OpenBlock) (e : Exchange) (r : LineByte) → IsInside rules t b e → true ≡ is_late (place_of t) t r → BeginsLate rules t r
  is_late_reply t b e r h late =
      let place = late_place (place_of t) r.wire (is_soon t r) late in
      record { asked = complete t b e h place.0; wire = place.1; late = let after = place.2 in grind (arith, nat_tests) }

  pub tells_late : (t : List LineByte) (b : OpenBlock) (e : Exchange) (r : LineByte) → IsInside rules t b e → (late : Bool) → late ≡ is_late (place_of t) t r
      → TellsLate rules t r late
  tells_late t b e r h true is = is_late_reply t b e r h is
  tells_late t b e r h false is = not_late t r is

  -- the last record of a block begins none
  pub last_not_late : (t : List LineByte) (b : OpenBlock) (e : Exchange) (r : LineByte) → IsInside rules t b e → None ≡ next_of b r.byte → is_late (place_of t) t r ≡ false
  last_not_late t b e r h last = inside_not_late t r b h.stands (λ none. grind (arith, nat_tests))

  -- ---- what a caller is told

  pub takes : (was old new : Paired) (r : LineByte) (o : Outcome) → was ≡ old → was.rules ≡ rules → new.rules ≡ rules → Does rules was.tail r o → new.tail ≡ tail_after was.tail r o
      → new.last_time ≡ Some r.time_us → new.reason ≡ None → new.exchange ≡ completed_by o → Takes old r o new
  takes was old new r o same at now done tail time reason exchange =
      rw (← same) (record { rules = now ∙ sym at; does = rw at done; tail = tail; last_time = time; reason = reason; exchange = exchange })

  pub refuses : (o : Option Command) (was old new : Paired) (r : LineByte) (reason : Reason) → was ≡ old → was.rules ≡ rules → new.rules ≡ rules → IsTailWith rules was.tail o → last_time was.tail ≤ r.time_us
      → pairing rules was.tail r ≡ Some reason → new.tail ≡ was.tail → new.last_time ≡ Some r.time_us → new.reason ≡ Some reason → new.exchange ≡ None
      → Refuses old r reason new
  refuses o was old new r reason same at now held later told tail_same time known none =
      let tail = held_tail rules was.tail o held in
      let why = table_reason rules was.tail r reason tail later told in
      rw (← same) (record {
        rules = now ∙ sym at;
        is_reason = rw at why;
        not_kept = rw at (reason_broken rules was.tail r reason tail why);
        tail = tail_same;
        last_time = time;
        known = known;
        none_complete = none;
      })

  -- ---- the command that is open

  -- a tail with no command kept begins with no complete one
  none_begun : (t : List LineByte) (c : Command) → IsTailWith rules t None → ¬ BeginsWith rules t c
  none_begun t c held begins =
      let len = whole_len Controller begins.records begins.block begins.command.whole in
      let long = whole_long Controller begins.records begins.block begins.command.whole in
      let first : block_len (begins.records ++ begins.reply) ≡ block_len begins.records = block_len-append begins.records begins.reply (omega arith) in
      let all = length-append begins.records begins.reply in
      by held long (rw (← begins.split) at first ∙ sym len) (rw (← begins.split) at all)
    where
      by : IsTailWith rules t None → 3 ≤ length begins.records → block_len t ≡ length begins.records → length t ≡ length begins.records + length begins.reply → ⊥
      by (inl e) long first all = omega (arith, ap length e)
      by (inr h) long first all = let short = h.short in omega arith

  -- what is kept is the complete command with which the tail begins, and no other
  pub held_begins : (t : List LineByte) (c : Command) → IsTailWith rules t (Some c) → BeginsWith rules t c
  held_begins t c (inl (b, h)) = record { records = t; reply = []; split = sym (append-nil t); block = b; command = h }
  held_begins t c (inr (reply, is)) = record { records = is.command; reply = reply; split = is.split; block = is.block; command = is.is_command }

  one_begun : (t : List LineByte) (a c : Command) → IsTailWith rules t (Some a) → BeginsWith rules t c → a ≡ c
  one_begun t a c held begins =
      let own = held_begins t a held in
      let same = (whole_parts Controller own.records begins.records own.reply begins.reply own.block begins.block own.command.whole begins.command.whole
      (sym own.split ∙ begins.split)).2 in
      let mine = own.command.meaning in
      let other = begins.command.meaning in
      cc

  open_is : (t : List LineByte) (o : Option Command) (c : Command) → IsTailWith rules t o → o ≡ Some c ↔ BeginsWith rules t c
  open_is t None c held = (λ same. absurd (cc), λ begins. absurd (none_begun t c held begins))
  open_is t (Some a) c held = (λ same. let mine : a ≡ c = cc in rw mine at (held_begins t a held), λ begins. ap Some (one_begun t a c held begins))

  pub open_told : (o : Option Command) (was old : Paired) → was ≡ old → was.rules ≡ rules → IsTailWith rules was.tail o → (c : Command)
      → (o ≡ Some c) ↔ BeginsWith old.rules old.tail c
  open_told o was old same at held c = rw (← same, at) (open_is was.tail o c held)

  -- ---- what is open

  -- a complete command
  pub command_open : (t : List LineByte) (b : OpenBlock) (e : Exchange) → IsInside rules t b e → place_at b ≡ AfterCommand
      → IsOpenAfter rules t (record { command = Some e.command; asked = length t; answered = 0; wanted = 0; sum = 0 })
  command_open t b e h place = by (command_held t b e h (deck_turn b true place))
    where
      by : IsTailWith rules t (Some e.command) → IsOpenAfter rules t (record { command = Some e.command; asked = length t; answered = 0; wanted = 0; sum = 0 })
      by (inl (block, is)) = is_after_command block e.command is refl
      by (inr (reply, is)) = absurd (let inside = (answered rules t reply e.command is).place in let stands = h.stands.place in cc)

  -- a reply that is begun
  pub reply_open : (t : List LineByte) (b : OpenBlock) (e : Exchange) → IsInside rules t b e → place_at b ≡ InReply
      → IsOpenAfter rules t (record {
        command = Some e.command;
        asked = block_len t;
        answered = length (open_at (place_of t) t);
        wanted = block_len (open_at (place_of t) t);
        sum = b.sum;
      })
  reply_open t b e h place = by (command_held t b e h (deck_turn b false place))
    where
      by : IsTailWith rules t (Some e.command)
          → IsOpenAfter rules t (record {
            command = Some e.command;
            asked = block_len t;
            answered = length (open_at (place_of t) t);
            wanted = block_len (open_at (place_of t) t);
            sum = b.sum;
          })
      by (inl (block, is)) = absurd (let after = place_of_command rules Controller t block is.whole in let stands = h.stands.place in cc)
      by (inr (reply, is)) =
          let parts = answered rules t reply e.command is in
          let len = whole_len Controller is.command is.block is.is_command.whole in
          let long = whole_long Controller is.command is.block is.is_command.whole in
          let short = is.begun.short in
          let asked : block_len t ≡ length is.command = ap block_len is.split ∙ block_len-append is.command reply (omega (arith, long)) ∙ sym len in
          let count : length reply + b.left ≡ block_len reply = rw (parts.place, parts.current) at h.stands.left in
          let total : b.sum ≡ sum (bytes_of reply) % 256 = rw (parts.place, parts.current) at (h.stands.sum_so_far (omega (arith, count, short))) in
          is_in_reply is.command reply is.block e.command is.split is.is_command is.begun is.in_time (rw (parts.place, parts.current, asked, total) refl)

  pub open_after_told : (o : Open) (was old : Paired) → was ≡ old → was.rules ≡ rules → IsOpenAfter rules was.tail o → IsOpenAfter old.rules old.tail o
  open_after_told o was old same at told = rw (← same, at) told
