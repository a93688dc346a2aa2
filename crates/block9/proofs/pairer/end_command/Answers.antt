use Rattle.block9.proofs.Words.{block_of, bytes_of, command_of, refl, Some, ◌≡◌}
use Rattle.block9.proofs.FeedLemmas.{held_command, none_held}
use Rattle.block9.proofs.pairer.end_command.Goals as goal

pub returns-clause-ok : goal.returns-clause-ok
returns-clause-ok c =
    let sent : c.fill_from.new.self ≡ block_of (bytes_of c.args.tail.now) = cc (c.fill_from.ensures, c.as_slice.ensures) in
    let meant : command_of c.args.rules.now.rate (block_of (bytes_of c.args.tail.now)) ≡ Some c.in_ok-exchange.field-0 = rw sent at c.in_ok-exchange.ensures.ok in
    let none = none_held c.args.rules.now _ _ _ c.requires.held c.requires.wire in
    let told = held_command c.args.rules.now c.args.tail.now c.args.line_byte (record c.args.exchange.now { command = c.in_ok-exchange.field-0; block = c.fill_from.new.self }) none c.requires.later
    c.requires.ends c.requires.right_sum sent meant in
    rw (c.push.ensures, c.to_come.ensures) ((_, _, told.0), refl, told.1)
