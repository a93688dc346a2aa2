use Rattle.std.proofs.Common.{arith, ◌+◌, drop, append_assoc}
use Rattle.std.proofs.lemmas.List.{drop_more}
use Rattle.text9.specs.Markup.{escaped}
use Rattle.text9.proofs.Runs.{no_run, one_more}
use Rattle.text9.proofs.markup.put_escaped.Goals as goal
use Rattle.text9.proofs.markup.put_escaped.Goals.{in-Some+in_ok-put+in_ok-put_text, in_default}

pub loop-at-preserved : goal.loop-at-preserved
loop-at-preserved c =
    let rest = escaped (drop (c.loop-at.at + 1) c.args.foreign.now) in
    let next = drop_more c.args.foreign.now c.loop-at.at 0 (omega arith) in
    elim c.match-name_of.branch [
      | in-Some+in_ok-put+in_ok-put_text w ↦
          (grind (arith, append_assoc, next, no_run c.args.foreign.now rest (c.loop-at.at + 1)), omega arith)
      | in_default w ↦
          (grind (arith, append_assoc, next, one_more c.args.foreign.now rest c.loop-at.from c.loop-at.at (omega arith) (omega arith)), omega arith)
    ]
