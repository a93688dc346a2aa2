use Rattle.report9.proofs.Words.{append_assoc}
use Rattle.report9.proofs.why_text.break_lines.put_since.Goals as goal

pub returns : goal.returns
returns c = rw c.in-Some.is (simp append_assoc (simp append_assoc at (rw (c.in_ok-put_count.ensures, c.saturating_sub.ensures) at c.put_text.ensures)))
