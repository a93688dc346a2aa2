use Rattle.report9.proofs.Words.{◌∙◌}
use Rattle.report9.proofs.WriteLemmas.{writes}
use Rattle.report9.proofs.run_text.write_no.Goals as goal

pub returns : goal.returns
returns g c =
    let text = c.as_slice.ensures.value ∙ rw c.new-line.ensures at c.in_ok-put_no_line.ensures in
    writes c.write_all.result _ _ _ (rw text at c.write_all.ensures.ok) (rw text at c.write_all.ensures.err)
