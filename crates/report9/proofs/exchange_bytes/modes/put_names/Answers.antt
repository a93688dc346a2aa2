use Rattle.std.proofs.Common.{codes, rules}
use Rattle.deck9.specs.Mode.{every_mode, name_of}
use Rattle.deck9.specs.ModeSet.{has}
use Rattle.report9.proofs.Rows.{names_more}
use Rattle.report9.proofs.exchange_bytes.modes.put_names.Goals as goal

pub loop-mode-preserved : goal.loop-mode-preserved
loop-mode-preserved c =
    let more = names_more (has c.args.modes.0) name_of every_mode c.loop-mode.mode-index _ c.loop-mode.before.now _ (codes "|") c.loop-mode.line.items _ _
    c.loop-mode-test.true c.loop-mode.invariant.1 (rw (c.has.ensures, c.name.ensures) at c.in_ok-before.ensures.text)
    (rw c.has.ensures at c.in_ok-before.ensures.next) in
    (search rules, more)
