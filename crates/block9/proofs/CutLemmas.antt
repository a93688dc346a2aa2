-- How lists are cut: a cut is the only one, a prefix of what is kept is kept, and the tail alone decides what a record does.
use Rattle.block9.proofs.Words.{[], after_command, ap, append-nil, append_assoc, arith, Block, block_len, Command, command_of, Controller, Cut, Deck, Exchange, false≢true, takes}
use Rattle.block9.proofs.Words.{Idle, in_command, in_reply, is_reply_time_valid, IsBegun, IsCommand, IsExchange, IsInTime, IsKept, IsTail, length, length-append, length_push}
use Rattle.block9.proofs.Words.{LineByte, List, None, nothing, pairing, place_of, refl, subst, sym, ◌++◌, ◌<◌, ◌∙◌, ◌∷◌, ◌≡◌}
use Rattle.block9.proofs.LineLemmas.{block_len-append, first_time-push_any, whole_len, whole_long, whole_parts}
use Rattle.block9.proofs.BlockSteps.{begun_push, whole_less}
use Rattle.block9.proofs.TailLemmas.{after_command_quiet, idle_quiet, in_command_quiet, in_reply_of, in_reply_quiet, InReplyOf, place_in_command, place_of_command}
use Rattle.block9.specs.declared.line_rules.LineRules.{LineRules}
use Rattle.block9.specs.Replies.{Named, TakesNoMore}

module _ (rules : LineRules) where
  -- a last record is the last one of the second of two parts
  pub last_apart : (t c d : List LineByte) (r : LineByte) → t ++ r ∷ [] ≡ c ++ d → 0 < length d → (d' : List LineByte) × (d ≡ d' ++ r ∷ []) × (t ≡ c ++ d')
  last_apart t [] d r e some = (t, sym e, refl)
  last_apart [] (x ∷ c) d r e some = absurd (let none : [] ≡ c ++ d = cc in let n = length-append c d in let m : 0 ≡ length (c ++ d) = ap length none in
      omega arith)
  last_apart (a ∷ t) (x ∷ c) d r e some =
      let tails : t ++ r ∷ [] ≡ c ++ d = cc in let more = last_apart t c d r tails some in (more.0, more.1, let heads : a ≡ x = cc in let same = more.2 in cc)

  -- a tail without its last record is a tail, and the record broke no rule
  pub tail_less : (t : List LineByte) (r : LineByte) → IsTail rules (t ++ r ∷ []) → IsTail rules t × (pairing rules t r ≡ None)
  tail_less t r (nothing e) = absurd (let n = length_push t r in let m : length (t ++ r ∷ []) ≡ 0 = ap length e in omega arith)
  tail_less [] r (in_command h) = (nothing refl, (idle_quiet rules r).1 h)
  tail_less (a ∷ rest) r (in_command h) =
      let parts = (begun_push Controller (a ∷ rest) r (omega arith)).0 h in
      (in_command parts.0, (in_command_quiet rules (a ∷ rest) r parts.0 parts.1.1).1 (parts.1, λ e. absurd (false≢true (sym parts.2 ∙ e))))
  tail_less t r (after_command b c h) =
      let parts = whole_less Controller t r b h.whole in (
        in_command parts.begun,
        (in_command_quiet rules t r parts.begun parts.goes_on.1).1
            (parts.goes_on, λ e. (parts.sum_right, c, ap (command_of rules.rate) (sym parts.block) ∙ h.meaning)),
      )
  tail_less t r (in_reply command reply b c e hc hd soon) =
      let parts = last_apart t command reply r e hd.begun in
      in_reply_less t command parts.0 r b c parts.2 hc (rw parts.1 at hd) (rw parts.1 at soon)
    where
      in_reply_less : (t command front : List LineByte) (r : LineByte) (b : Block) (c : Command) → t ≡ command ++ front → IsCommand rules command b c
          → IsBegun Deck (front ++ r ∷ []) → IsInTime rules command (front ++ r ∷ []) → IsTail rules t × (pairing rules t r ≡ None)
      in_reply_less t command [] r b c e hc hd soon = let same : t ≡ command = e ∙ append-nil command in
          rw same (after_command b c hc, (after_command_quiet rules command r b hc.whole soon.later).1 (hd, soon))
      in_reply_less t command (a ∷ rest) r b c e hc hd soon =
          let parts = (begun_push Deck (a ∷ rest) r (omega arith)).0 hd in
          let place = in_reply_of rules command (a ∷ rest) t b c e hc (omega arith) in (
            in_reply command (a ∷ rest) b c e hc parts.0 (record { later = soon.later; soon = soon.soon }),
            (in_reply_quiet rules command (a ∷ rest) t b c r place (rw place.last parts.1.1)).1 (parts.1, λ e. absurd (false≢true (sym parts.2 ∙ e))),
          )

  -- an exchange without its last record is a tail, and the record broke no rule
  pub exchange_less : (t : List LineByte) (r : LineByte) (e : Exchange) → IsExchange rules (t ++ r ∷ []) e → IsTail rules t × (pairing rules t r ≡ None)
  exchange_less t r e h =
      let long = whole_long Deck h.answered e.reply h.reply in
      let apart = last_apart t h.asked h.answered r h.split (omega arith) in
      let parts = whole_less Deck apart.0 r e.reply (rw apart.1 at h.reply) in
      let place = in_reply_of rules h.asked apart.0 t e.block e.command apart.2 h.command parts.begun.begun in
      let first = first_time-push_any apart.0 r parts.begun.begun in
      let in_time = rw apart.1 at h.in_time in (
        in_reply h.asked apart.0 e.block e.command apart.2 h.command parts.begun
            (record { later = rw first at in_time.later; soon = λ counts. rw first at (in_time.soon counts) }),
        (in_reply_quiet rules h.asked apart.0 t e.block e.command r place (rw place.last parts.goes_on.1)).1 (
          parts.goes_on,
          λ ends. (
            parts.sum_right,
            ap (takes rules.replies e.block e.command) (sym parts.block) ∙ h.kind,
            ap (is_reply_time_valid rules.rate e.command) (sym parts.block)
                ∙ h.valid_time,
          ),
        ),
      )

  -- no tail begins with a complete exchange
  pub tail_no_exchange : (t front rest : List LineByte) (e : Exchange) → IsTail rules t → IsExchange rules front e → t ≡ front ++ rest → ⊥
  tail_no_exchange t front rest e tail h split = by tail
    where
      parts : InReplyOf rules h.asked (h.answered ++ rest) t e.block e.command
      parts = in_reply_of rules h.asked (h.answered ++ rest) t e.block e.command (split ∙ ap (λ l. l ++ rest) h.split ∙ append_assoc h.asked h.answered rest) h.command
          (let n = whole_long Deck h.answered e.reply h.reply in omega (arith, length-append h.answered rest))

      by : IsTail rules t → ⊥
      by (nothing same) = let none : place_of t ≡ Idle = ap place_of same in let place = parts.place in cc
      by (in_command begun) = let begins = place_in_command rules Controller t begun in let place = parts.place in cc
      by (after_command b c command) = let ends = place_of_command rules Controller t b command.whole in let place = parts.place in cc
      by (in_reply command reply b c same hc hd soon) =
          let again = sym (in_reply_of rules command reply t b c same hc hd.begun).current ∙ parts.current in
          let long = whole_long Deck h.answered e.reply h.reply in
          let first : block_len reply ≡ block_len h.answered = ap block_len again ∙ block_len-append h.answered rest (omega arith) in
          omega (arith, length-append h.answered rest, ap length again, whole_len Deck h.answered e.reply h.reply)

  -- an exchange at the head of a list is the only one there
  exchange_once : (d e : Exchange) (a b x y : List LineByte) → IsExchange rules a d → IsExchange rules b e → a ++ x ≡ b ++ y → (d ≡ e) × (x ≡ y)
  exchange_once d e a b x y h k same =
      let whole : h.asked ++ (h.answered ++ x) ≡ k.asked ++ (k.answered ++ y) = cc (append_assoc h.asked h.answered x, append_assoc k.asked k.answered y) in
      let commands = whole_parts Controller h.asked k.asked (h.answered ++ x) (k.answered ++ y) d.block e.block h.command.whole k.command.whole whole in
      let replies = whole_parts Deck h.answered k.answered x y d.reply e.reply h.reply k.reply commands.1 in
      (grind arith, replies.1)

  -- a list has at most one cut
  pub cut_once : (p : List LineByte) (ds es : List Exchange) (t u : List LineByte) → Cut rules p ds t → Cut rules p es u → (ds ≡ es) × (t ≡ u)
  cut_once p [] [] t u h k = (refl, sym h.0 ∙ k.0)
  cut_once p [] (e ∷ es) t u h k = absurd (tail_no_exchange p k.0 k.1 e (rw (← h.0) at h.1) k.3 k.2)
  cut_once p (d ∷ ds) [] t u h k = absurd (tail_no_exchange p h.0 h.1 d (rw (← k.0) at k.1) h.3 h.2)
  cut_once p (d ∷ ds) (e ∷ es) t u h k =
      let same = exchange_once d e h.0 k.0 h.1 k.1 h.3 k.3 (sym h.2 ∙ k.2) in
      let more = cut_once k.1 ds es t u (subst (λ (l : List LineByte). Cut rules l ds t) same.1 h.4) k.4 in
      (ap (λ x. x ∷ ds) same.0 ∙ ap (λ l. e ∷ l) more.0, more.1)

  -- cuts that begin with an exchange
  pub cut_more : (front rest : List LineByte) (e : Exchange) → IsExchange rules front e → IsKept rules rest → IsKept rules (front ++ rest)
  cut_more front rest e h k = record { exchanges = e ∷ k.exchanges; tail = k.tail; cut = (front, rest, refl, h, k.cut) }

  pub tail_kept : (t : List LineByte) → IsTail rules t → IsKept rules t
  tail_kept t h = record { exchanges = []; tail = t; cut = (refl, h) }

  pub exchange_kept : (front : List LineByte) (e : Exchange) → IsExchange rules front e → IsKept rules front
  exchange_kept front e h = subst (λ (l : List LineByte). IsKept rules l) (append-nil front) (cut_more front [] e h (tail_kept [] (nothing refl)))

  -- a list that is kept with a last record has a cut without it, and the record breaks no rule after the tail
  last_less : (p : List LineByte) (r : LineByte) (es : List Exchange) (u : List LineByte) → Cut rules (p ++ r ∷ []) es u
      → (ds : List Exchange) × (t : List LineByte) × Cut rules p ds t × (pairing rules t r ≡ None)
  last_less p r [] u h = let less = tail_less p r (rw (← h.0) at h.1) in ([], p, (refl, less.0), less.1)
  last_less p r (e ∷ es) u (front, [], split, is, more) = let less = exchange_less p r e (rw (← (split ∙ append-nil front)) at is) in
      ([], p, (refl, less.0), less.1)
  last_less p r (e ∷ es) u (front, a ∷ rest, split, is, more) =
      let parts = last_apart p front (a ∷ rest) r split (omega arith) in
      let less = last_less parts.0 r es u (subst (λ (l : List LineByte). Cut rules l es u) parts.1 more) in
      (e ∷ less.0, less.1, (front, parts.0, parts.2, is, less.2), less.3)

  -- a prefix of a list that is kept is kept
  pub kept_less : (p : List LineByte) (r : LineByte) → IsKept rules (p ++ r ∷ []) → IsKept rules p
  kept_less p r h = let less = last_less p r h.exchanges h.tail h.cut in record { exchanges = less.0; tail = less.1; cut = less.2 }

  -- after a tail, a record with a list that is kept breaks no rule
  pub kept_no_fault : (t : List LineByte) (r : LineByte) → IsTail rules t → IsKept rules (t ++ r ∷ []) → pairing rules t r ≡ None
  kept_no_fault t r tail h =
      let less = last_less t r h.exchanges h.tail h.cut in rw (cut_once t [] less.0 t less.1 (refl, tail) less.2).1 less.3

  -- ---- what records do after a list depends on the list's tail

  -- the cut of a list with records more is its own, and then that of its tail with these
  pub cut_joined : (p : List LineByte) (es fs : List Exchange) (t q u : List LineByte) → Cut rules p es t → Cut rules (t ++ q) fs u → Cut rules (p ++ q) (es ++ fs) u
  cut_joined p [] fs t q u h k = rw h.0 k
  cut_joined p (e ∷ es) fs t q u h k = (h.0, h.1 ++ q, rw h.2 (append_assoc h.0 h.1 q), h.3, cut_joined h.1 es fs t q u h.4 k)

  pub cut_parted : (p : List LineByte) (es gs : List Exchange) (t q u : List LineByte) → Cut rules p es t → Cut rules (p ++ q) gs u
      → (fs : List Exchange) × (gs ≡ es ++ fs) × Cut rules (t ++ q) fs u
  cut_parted p [] gs t q u h k = (gs, refl, rw h.0 at k)
  cut_parted p (e ∷ es) [] t q u h k = absurd (tail_no_exchange (p ++ q) h.0 (h.1 ++ q) e (rw (← k.0) at k.1) h.3 (rw h.2 (append_assoc h.0 h.1 q)))
  cut_parted p (e ∷ es) (d ∷ gs) t q u h k =
      let same = exchange_once d e k.0 h.0 k.1 (h.1 ++ q) k.3 h.3 (sym k.2 ∙ rw h.2 (append_assoc h.0 h.1 q)) in
      let rest = cut_parted h.1 es gs t q u h.4 (subst (λ (l : List LineByte). Cut rules l gs u) same.1 k.4) in
      (rest.0, ap (λ x. x ∷ gs) same.0 ∙ ap (λ l. e ∷ l) rest.1, rest.2)

  pub kept_by_tail : (p : List LineByte) (es : List Exchange) (t q : List LineByte) → Cut rules p es t → IsKept rules (t ++ q) → IsKept rules (p ++ q)
  kept_by_tail p es t q h k = record { exchanges = es ++ k.exchanges; tail = k.tail; cut = cut_joined p es k.exchanges t q k.tail h k.cut }

  pub tail_by_kept : (p : List LineByte) (es : List Exchange) (t q : List LineByte) → Cut rules p es t → IsKept rules (p ++ q) → IsKept rules (t ++ q)
  tail_by_kept p es t q h k = let rest = cut_parted p es k.exchanges t q k.tail h k.cut in record { exchanges = rest.0; tail = k.tail; cut = rest.2 }

-- where commands take more replies, records are cut alike
module _ (rules : LineRules) (more : Named) (takes_more : TakesNoMore rules.rate rules.replies more) where
  abbrev taking : LineRules
  taking = record rules { replies = more }

  command_more : (records : List LineByte) (b : Block) (c : Command) → IsCommand rules records b c → IsCommand taking records b c
  command_more records b c h = record { whole = h.whole; meaning = h.meaning }

  tail_more : (t : List LineByte) → IsTail rules t → IsTail taking t
  tail_more t (nothing e) = nothing e
  tail_more t (in_command h) = in_command h
  tail_more t (after_command b c h) = after_command b c (command_more t b c h)
  tail_more t (in_reply command reply b c e hc hd soon) =
      in_reply command reply b c e (command_more command b c hc) hd (record { later = soon.later; soon = soon.soon })

  exchange_more : (records : List LineByte) (e : Exchange) → IsExchange rules records e → IsExchange taking records e
  exchange_more records e h = record {
    asked = h.asked;
    answered = h.answered;
    split = h.split;
    command = command_more h.asked e.block e.command h.command;
    reply = h.reply;
    in_time = record { later = h.in_time.later; soon = h.in_time.soon };
    time = h.time;
    delay = h.delay;
    kind = takes_more e.block e.command e.reply h.command.meaning h.kind;
    valid_time = h.valid_time;
  }

  pub cut_taking_more : (records : List LineByte) (es : List Exchange) (t : List LineByte) → Cut rules records es t → Cut taking records es t
  cut_taking_more records [] t cut = (cut.0, tail_more t cut.1)
  cut_taking_more records (e ∷ es) t (front, rest, split, is, cut) = (front, rest, split, exchange_more front e is, cut_taking_more rest es t cut)
