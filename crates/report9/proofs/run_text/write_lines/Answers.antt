use Rattle.report9.proofs.Words.{[], arith, either_empty_from_Zip, length-append, Zip-more, ◌∷◌}
use Rattle.report9.proofs.WriteLemmas.{failed}
use Rattle.report9.proofs.run_text.write_lines.Goals as goal
use Rattle.report9.proofs.Lines.{lines-end, lines-more, lines-part}

pub loop-exchange-preserved : goal.loop-exchange-preserved
loop-exchange-preserved g c =
    let i = c.loop-exchange.invariant in
    let turn = Zip-more c.loop-exchange.exchange-iterator c.next.new.self c.next.result (c.in-Some.exchange, c.in-Some.state) c.in-Some.is c.next.ensures.steps
    in
    let turns = length-append c.loop-exchange.yielded ((c.in-Some.exchange, c.in-Some.state) ∷ []) in
    (i.0, i.1, omega (arith, i.2, c.records.ensures.few, turns), lines-more i.3 turn.0 turn.1 c.records.ensures.records c.in_ok-write_state_line.ensures)

pub returns-in_err-write_state_line : goal.returns-in_err-write_state_line
returns-in_err-write_state_line g c =
    let turn = Zip-more c.loop-exchange.exchange-iterator c.next.new.self c.next.result (c.in-Some.exchange, c.in-Some.state) c.in-Some.is c.next.ensures.steps
    in
    failed c.from_residual.result _ _ _ c.from_residual.ensures.0
    (lines-part c.loop-exchange.invariant.3 turn.0 turn.1 c.records.ensures.records _ c.in_err-write_state_line.ensures)

pub returns : goal.returns
returns g c = lines-end c.loop-exchange.invariant.3 (either_empty_from_Zip c.loop-exchange.exchange-iterator c.next.new.self c.next.result c.in-None.is
    c.next.ensures.steps)
