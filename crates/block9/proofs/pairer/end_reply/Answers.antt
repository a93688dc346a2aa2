use Rattle.block9.proofs.Words.{arith, block_len, block_of, bytes_of, None, open_at, place_of, refl, reply_fault, rules, Some, ◌≡◌}
use Rattle.block9.proofs.FeedLemmas.{command_held}
use Rattle.block9.proofs.SpellingLemmas.{first_at, last_of_first}
use Rattle.block9.proofs.StepLemmas.{delay_fits, reply_begin, reply_now}
use Rattle.block9.proofs.pairer.end_reply.Goals as goal

pub reply_in-requires : goal.reply_in-requires
reply_in-requires c =
    let held = command_held c.args.rules.now _ _ _ c.requires.held c.requires.wire in
    rw c.as_slice-records.ensures (reply_begin c.args.rules.now c.args.tail.now c.args.exchange.now.command held c.requires.ends).2

pub overflow_sub-exchange-2 : goal.overflow_sub-exchange-2
overflow_sub-exchange-2 c =
    let held = command_held c.args.rules.now _ _ _ c.requires.held c.requires.wire in
    let now = reply_now c.args.rules.now c.args.tail.now c.args.exchange.now.command held c.requires.ends in
    let begin = reply_begin c.args.rules.now c.args.tail.now c.args.exchange.now.command held c.requires.ends in
    let fits = delay_fits c.args.rules.now c.args.tail.now now.0 c.args.exchange.now.command now.1 in
    let at : c.block_len-begin.result ≡ block_len c.args.tail.now = cc (c.block_len-begin.ensures, c.as_slice-records.ensures) in
    rw (
      c.as_slice-records.ensures,
      at,
      first_at c.args.tail.now (block_len c.args.tail.now) _ begin.1,
      last_of_first c.args.tail.now (block_len c.args.tail.now) _ (omega (arith, begin.0)) (omega (arith, begin.1)),
    ) fits

pub returns-clause-ok : goal.returns-clause-ok
returns-clause-ok c =
    let held = command_held c.args.rules.now _ _ _ c.requires.held c.requires.wire in
    let begin = reply_begin c.args.rules.now c.args.tail.now c.args.exchange.now.command held c.requires.ends in
    let at : c.block_len-begin.result ≡ block_len c.args.tail.now = cc (c.block_len-begin.ensures, c.as_slice-records.ensures) in
    let reply : c.fill_from.new.self ≡ block_of (bytes_of (open_at (place_of c.args.tail.now) c.args.tail.now)) = cc in
    let meant : reply_fault c.args.rules.now c.args.exchange.now.block (Some c.args.exchange.now.command) (block_of (bytes_of (open_at (place_of c.args.tail.now) c.args.tail.now))) ≡ None = search rules in (
      meant,
      rw (
        reply,
        c.as_slice-records.ensures,
        at,
        first_at c.args.tail.now (block_len c.args.tail.now) _ begin.1,
        last_of_first c.args.tail.now (block_len c.args.tail.now) _ (omega (arith, begin.0)) (omega (arith, begin.1)),
        first_at c.args.tail.now 0 _ (omega (arith, begin.1)),
      ) refl,
      c.clear.ensures,
      c.to_come.ensures,
    )
