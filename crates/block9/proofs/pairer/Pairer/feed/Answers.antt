use Rattle.block9.proofs.Words.{answers_late, early_fault, leaves_open, place_of, refl, rules, Some, sym, ◌≡◌, ◌∙◌}
use Rattle.std.proofs.lemmas.Result.{IfErr-weaker, IfOk-weaker}
use Rattle.block9.proofs.FeedLemmas.{completed_refused, completed_step, early_told, fed_in_order, fed_refused, fed_step, fed_waiting, held_waiting, is_late_reply, last_not_late, late_of_view, not_late, open_completed, refuses, takes, tells_late}
use Rattle.block9.proofs.pairer.Pairer.feed.Goals as goal

-- a record that begins a block or goes on with one
pub push-requires : goal.push-requires
push-requires c =
    let later = fed_in_order c.self.inside.rules c.self.inside.tail _ c.self.inside.passed_us c.args.line_byte _ _ c.self.view_is c.in_default.is refl c.requires in
    (held_waiting c.self.inside.rules _ _ _ c.args.line_byte c.in-Ok-Open.block c.self.invariant later (search rules) (search rules) (search rules)).1

pub invariant_of-self : goal.invariant_of-self
invariant_of-self c =
    let later = fed_in_order c.self.inside.rules c.self.inside.tail _ c.self.inside.passed_us c.args.line_byte _ _ c.self.view_is c.in_default.is refl c.requires in
    rw c.push.ensures (held_waiting c.self.inside.rules _ _ _ c.args.line_byte c.in-Ok-Open.block c.self.invariant later (search rules) (search rules) (search rules)).0

pub invariant_of-self-in-Ok-Open : goal.invariant_of-self-in-Ok-Open
invariant_of-self-in-Ok-Open c =
    let later = fed_in_order c.self.inside.rules c.self.inside.tail _ c.self.inside.passed_us c.args.line_byte _ _ c.self.view_is c.in_default.is refl c.requires in
    rw c.push.ensures (held_waiting c.self.inside.rules _ _ _ c.args.line_byte c.in-Ok-Open.block c.self.invariant later (search rules) (search rules) (search rules)).0

pub returns-then-late-clause-takes : goal.returns-then-late-clause-takes
returns-then-late-clause-takes c = λ known.
    let later = fed_in_order c.self.inside.rules c.self.inside.tail _ c.self.inside.passed_us c.args.line_byte _ _ c.self.view_is c.in_default.is refl c.requires in
    let held = held_waiting c.self.inside.rules _ _ _ c.args.line_byte c.in-Ok-Open.block c.self.invariant later (search rules) (search rules) (search rules) in
    let late = is_late_reply c.self.inside.rules _ _ _ c.args.line_byte c.self.invariant (sym c.if-late.true ∙ (rw (c.in-Ok-Open.field-0-is, c.as_slice.ensures) at c.in-Ok-Open.ensures.ok.1).1) in (
      answers_late,
      refl,
      takes c.self.inside.rules _ _ _ _ answers_late c.self.view_is refl refl (held.2, late) c.push.ensures
          (rw (c.push.ensures, c.in_default.is) (fed_waiting c.self.inside.rules c.self.inside.tail c.args.line_byte _)) c.in_default.is
          (rw (c.push.ensures, c.in_default.is) (open_completed c.self.inside.rules c.self.inside.tail c.args.line_byte _ _)),
    )

pub returns-in-Ok-Open-clause-takes : goal.returns-in-Ok-Open-clause-takes
returns-in-Ok-Open-clause-takes c = λ known.
    let later = fed_in_order c.self.inside.rules c.self.inside.tail _ c.self.inside.passed_us c.args.line_byte _ _ c.self.view_is c.in_default.is refl c.requires in
    let held = held_waiting c.self.inside.rules _ _ _ c.args.line_byte c.in-Ok-Open.block c.self.invariant later (search rules) (search rules) (search rules) in
    let in_time = not_late c.self.inside.rules _ c.args.line_byte (sym c.if-late.false ∙ (rw (c.in-Ok-Open.field-0-is, c.as_slice.ensures) at c.in-Ok-Open.ensures.ok.1).1) in (
      leaves_open,
      refl,
      takes c.self.inside.rules _ _ _ _ leaves_open c.self.view_is refl refl (held.2, held.3, in_time) c.push.ensures
          (rw (c.push.ensures, c.in_default.is) (fed_waiting c.self.inside.rules c.self.inside.tail c.args.line_byte _)) c.in_default.is
          (rw (c.push.ensures, c.in_default.is) (open_completed c.self.inside.rules c.self.inside.tail c.args.line_byte _ _)),
    )

-- the last record of a block
pub returns-clause-takes : goal.returns-clause-takes
returns-clause-takes c = λ known.
    IfOk-weaker c.end.result _ _ (λ step ok. (
      ok.0,
      ok.1,
      takes c.self.inside.rules _ _ _ _ ok.0 c.self.view_is refl refl ok.2 ok.4
          (rw (ok.4, ok.5, c.in_default.is) (fed_step c.self.inside.rules c.self.inside.tail c.args.line_byte ok.0)) (ok.5 ∙ c.in_default.is)
          (rw (ok.4, ok.5, c.in_default.is) (completed_step c.self.inside.rules c.self.inside.tail c.args.line_byte ok.0 _ ok.3)),
    )) c.end.ensures.ok

-- a record that breaks a rule
pub returns-in-Err-clause-refuses : goal.returns-in-Err-clause-refuses
returns-in-Err-clause-refuses c = λ known.
    let later = fed_in_order c.self.inside.rules c.self.inside.tail _ c.self.inside.passed_us c.args.line_byte _ _ c.self.view_is c.in_default.is refl c.requires in
    let told : early_fault c.self.inside.rules.reply_limit (place_of c.self.inside.tail) c.self.inside.tail c.args.line_byte ≡ Some c.in-Err.reason = rw c.as_slice.ensures at c.in-Err.ensures.err in
    let late = tells_late c.self.inside.rules _ _ _ c.args.line_byte c.self.invariant c.is_late-late.result (rw c.as_slice-in-Err.ensures at c.is_late-late.ensures) in
    rw c.refuse.ensures.refused (
      refuses c.self.inside.rules _ _ _ _ c.args.line_byte c.in-Err.reason c.self.view_is refl refl c.self.invariant.held later
          (early_told c.self.inside.rules c.self.inside.tail c.args.line_byte _ told) refl (rw c.refuse.ensures.kept (fed_refused c.self.inside.rules c.self.inside.tail _ _)) c.refuse.ensures.kept
          (rw c.refuse.ensures.kept (completed_refused c.self.inside.rules c.self.inside.tail _ _ _)),
      late_of_view c.self.inside.rules _ _ _ c.self.view_is refl _ late,
    )

pub returns-clause-refuses : goal.returns-clause-refuses
returns-clause-refuses c = λ known.
    let later = fed_in_order c.self.inside.rules c.self.inside.tail _ c.self.inside.passed_us c.args.line_byte _ _ c.self.view_is c.in_default.is refl c.requires in
    let last = (rw (c.in-Ok-Last.field-0-is, c.as_slice.ensures) at c.in-Ok-Last.ensures.ok).1 in
    let in_time = last_not_late c.self.inside.rules c.self.inside.tail _ _ c.args.line_byte c.self.invariant last in
    IfErr-weaker c.end.result _ _ (λ refusal err. (
      refuses c.self.inside.rules _ _ _ _ c.args.line_byte refusal.reason c.self.view_is refl refl c.self.invariant.held later err.0 err.3
          (rw err.2 (fed_refused c.self.inside.rules c.end.new.tail refusal.reason _)) err.2 (rw err.2 (completed_refused c.self.inside.rules c.end.new.tail refusal.reason _ _)),
      late_of_view c.self.inside.rules _ _ _ c.self.view_is refl _
          (tells_late c.self.inside.rules _ _ _ c.args.line_byte c.self.invariant refusal.late (err.1 ∙ sym in_time)),
    )) c.end.ensures.err
