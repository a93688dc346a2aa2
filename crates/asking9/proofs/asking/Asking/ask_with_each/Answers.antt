use Rattle.std.proofs.Common.{arith, ◌∙◌}
use Rattle.asking9.proofs.Answering.{last_checked, one_more}
use Rattle.asking9.proofs.asking.Asking.ask_with_each.Goals as goal

pub ask-answer-requires-clause-before : goal.ask-answer-requires-clause-before
ask-answer-requires-clause-before g c =
    let now = c.loop-terms.invariant in
    rw (now.scope, now.deck, now.text) (last_checked _ _ _ _ _ c.last.result now.are (rw c.deref.ensures.value at c.last.ensures.value))

pub loop-terms-preserved : goal.loop-terms-preserved
loop-terms-preserved g c =
    let now = c.loop-terms.invariant in
    let checked = rw (now.scope, now.deck, now.text) at c.ask-answer.ensures.checked in
    record {
      plain = c.ask-answer.ensures.plain;
      deck = c.ask-answer.ensures.deck ∙ now.deck;
      scope = c.ask-answer.ensures.scope ∙ now.scope;
      text = c.ask-answer.ensures.text ∙ now.text;
      are = rw c.in_ok-push.ensures.items (one_more _ _ _ _ _ _ _ c.ask-answer.result (grind (arith, c.loop-terms-test.true)) now.are c.ask-answer.ensures.terms checked);
    }
