use Rattle.block9.proofs.Words.{ap, completes, refl, Refusal, rules, Some, sym, ◌∙◌}
use Rattle.block9.proofs.FeedLemmas.{ends_exchange, reply_says}
use Rattle.block9.proofs.StandsLemmas.{right_sum}
use Rattle.block9.proofs.pairer.end.Goals as goal

pub returns-in-Ok-end_reply-clause-ok : goal.returns-in-Ok-end_reply-clause-ok
returns-in-Ok-end_reply-clause-ok c =
    let right = right_sum c.args.tail.now c.args.block.now c.args.line_byte.byte c.requires.held.stands (sym c.requires.ends.1) (search rules) in
    let ok = c.in-Ok-end_reply.ensures.ok in (
      completes c.end_reply.new.exchange,
      refl,
      ends_exchange c.args.rules.now c.args.tail.now c.args.block.now c.args.line_byte _ _ c.requires.held c.in-Deck.is c.requires.later c.requires.ends right ok.1 ok.0,
      refl,
      ok.2,
      refl,
    )

pub returns-in-Err-end_reply-clause-err : goal.returns-in-Err-end_reply-clause-err
returns-in-Err-end_reply-clause-err c =
    let right = right_sum c.args.tail.now c.args.block.now c.args.line_byte.byte c.requires.held.stands (sym c.requires.ends.1) (search rules) in
    rw (c.refuse-in-Err-end_reply.ensures.refused, c.of-in-Err-end_reply.ensures) (
      reply_says c.args.rules.now c.args.tail.now c.args.block.now c.args.exchange.now c.args.line_byte _ c.requires.held c.in-Deck.is c.requires.ends right c.in-Err-end_reply.ensures.err,
      refl,
      c.refuse-in-Err-end_reply.ensures.kept ∙ ap (λ (x : Refusal). Some x.reason) c.of-in-Err-end_reply.ensures,
      c.in-Err-end_reply.ensures.same.0,
    )
