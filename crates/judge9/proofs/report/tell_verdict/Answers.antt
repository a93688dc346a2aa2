use Rattle.judge9.proofs.Words.{ap, Appends-nil, Ending, line_of, refl, ◌++◌, ◌∙◌}
use Rattle.judge9.proofs.report.tell_verdict.Goals as goal
use Rattle.judge9.proofs.Endings.{line_told, line_unwritten, no_line, yes_line}
use Rattle.judge9.proofs.TurnSteps.{handed}

pub returns-in_err-put_verdict_line : goal.returns-in_err-put_verdict_line
returns-in_err-put_verdict_line g c =
    rw (handed c.from_residual-in_err-put_verdict_line.result c.from_residual-in_err-put_verdict_line.ensures.1) (record { told = c.in_ok-tell_all.ensures.told; refusal = tt })

pub returns-in_err-write_all : goal.returns-in_err-write_all
returns-in_err-write_all g c =
    let v = c.verdict-verdict.result in
    let line = c.as_slice.ensures.value ∙ c.in_ok-put_verdict_line.ensures ∙ ap (λ l. l ++ line_of v) c.clear.ensures.items in
    rw (handed c.from_residual-in_err-write_all.result c.from_residual-in_err-write_all.ensures.1)
    (line_unwritten c.in_ok-tell_all.ensures (Ending.judged v) (rw (c.requires.first, c.verdict-verdict.ensures) refl) _ (rw (yes_line v c.in-Yes.is, ← line) c.in_err-write_all.ensures.err))

pub returns-in_ok-write_all : goal.returns-in_ok-write_all
returns-in_ok-write_all g c =
    let v = c.verdict-verdict.result in
    let line = c.as_slice.ensures.value ∙ c.in_ok-put_verdict_line.ensures ∙ ap (λ l. l ++ line_of v) c.clear.ensures.items in
    line_told c.in_ok-tell_all.ensures (Ending.judged v) (rw (c.requires.first, c.verdict-verdict.ensures) refl) _ (rw (yes_line v c.in-Yes.is, ← line) c.in_ok-write_all.ensures.ok)

pub returns-in_default : goal.returns-in_default
returns-in_default g c =
    let v = c.verdict-verdict.result in
    line_told c.in_ok-tell_all.ensures (Ending.judged v) (rw (c.requires.first, c.verdict-verdict.ensures) refl) _
    (rw (no_line v c.in_default.not-Yes) (Appends-nil (g.W.Write.contents c.tell_all.new.writer)))
