use Rattle.report9.proofs.Words.{rules}
use Rattle.report9.proofs.why_text.break_lines.put_bytes.Goals as goal
use Rattle.report9.proofs.Lines.{bytes_more}

pub loop-record-preserved : goal.loop-record-preserved
loop-record-preserved c =
    let more = bytes_more c.args.records.now c.loop-record.record-index _ c.loop-record.before.now c.loop-record.line.items _ _ _ c.loop-record-test.true
    c.loop-record.invariant.1 c.in_ok-put_text.ensures (rw c.from.ensures at c.in_ok-put_hex.ensures) in
    (search rules, more)
