use Rattle.std.proofs.Common.{arith, take-add}
use Rattle.std.proofs.lemmas.List.{length-drop, take_rest}
use Rattle.std.proofs.KnownBytes.{Appends-trans}
use Rattle.report9.proofs.writing.write_some.Goals as goal

-- a first part, and a first part of the rest
pub loop-at-preserved : goal.loop-at-preserved
loop-at-preserved g c =
    let rest = take_rest c.args.bytes.now c.loop-at.at in
    let bound = rw rest at c.in-Ok.ensures.bound in (
      omega (arith, length-drop c.loop-at.at c.args.bytes.now, c.loop-at.invariant.0),
      rw (take-add c.loop-at.at c.in-Ok.n c.args.bytes.now)
          (Appends-trans _ _ _ _ _ c.loop-at.invariant.1 (rw rest at c.in-Ok.ensures.bytes)),
    )
