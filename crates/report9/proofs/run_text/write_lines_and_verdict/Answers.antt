use Rattle.report9.proofs.Words.{length, line_of, lines_of_run, Verdict}
use Rattle.report9.proofs.WriteLemmas.{piece_after}
use Rattle.report9.proofs.run_text.write_lines_and_verdict.Goals as goal

pub returns-in_ok-write_lines-in-Yes : goal.returns-in_ok-write_lines-in-Yes
returns-in_ok-write_lines-in-Yes g c =
    rw c.in-Yes.is (piece_after c.write_yes.result _ _ _
    (lines_of_run c.args.profile.now c.in-Yes.past c.in-Yes.exchanges.items c.in-Yes.states.items)
    (line_of (Verdict.Yes c.in-Yes.records (length c.in-Yes.exchanges.items) c.in-Yes.tail))
    (rw (c.as_slice.ensures.value, c.as_slice-in-Yes.ensures.value) at c.in_ok-write_lines-in-Yes.ensures)
    (rw (c.len.ensures, ← c.as_slice.ensures.len, c.as_slice.ensures.value) at c.write_yes.ensures))
