use Rattle.judge9.proofs.Words.{ap, AppendsPart, Ending, line_of_totals, refl, subst, ◌++◌, ◌∙◌}
use Rattle.judge9.proofs.report.tell_totals.Goals as goal
use Rattle.judge9.proofs.Endings.{line_told, line_unwritten}
use Rattle.judge9.proofs.TurnSteps.{handed}

pub returns-in_err-write_all : goal.returns-in_err-write_all
returns-in_err-write_all g c =
    let line = c.as_slice.ensures.value ∙ c.in_ok-put_totals_line.ensures ∙ ap (λ l. l ++ line_of_totals c.totals-totals.result) c.clear.ensures.items in
    rw (handed c.from_residual-in_err-write_all.result c.from_residual-in_err-write_all.ensures.1)
    (line_unwritten c.in_ok-tell_all.ensures (Ending.counted c.totals-totals.result) (rw (c.requires.whole, c.totals-totals.ensures) refl) _
    (subst (λ l. AppendsPart (g.W.Write.contents c.tell_all.new.writer) (g.W.Write.contents c.write_all.new.writer) l) line c.in_err-write_all.ensures.err))

pub returns : goal.returns
returns g c =
    let line = c.as_slice.ensures.value ∙ c.in_ok-put_totals_line.ensures ∙ ap (λ l. l ++ line_of_totals c.totals-totals.result) c.clear.ensures.items in
    line_told c.in_ok-tell_all.ensures (Ending.counted c.totals-totals.result) (rw (c.requires.whole, c.totals-totals.ensures) refl) _ (rw (← line) c.in_ok-write_all.ensures.ok)
