use Rattle.std.proofs.Common.{◌∙◌, Some, ap}
use Rattle.clap.specs.Words.{found_of}
use Rattle.clap.proofs.WalkLemmas.{first_value-rows}
use Rattle.words9.proofs.words.value_of.Goals as goal

pub returns-in_ok-from_str-in-Some : goal.returns-in_ok-from_str-in-Some
returns-in_ok-from_str-in-Some c =
    let read = rw c.in-Some.is at (c.get_str.ensures ∙ first_value-rows (found_of c.args.found.now) c.args.argument.now) in
    ap Some c.in_ok-from_str-in-Some.ensures.ok ∙ read

pub returns-in-None : goal.returns-in-None
returns-in-None c = rw c.in-None.is at (c.get_str.ensures ∙ first_value-rows (found_of c.args.found.now) c.args.argument.now)
