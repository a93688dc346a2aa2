use Rattle.std.proofs.Common.{◌∙◌, ap}
use Rattle.clap.specs.Words.{found_of}
use Rattle.clap.proofs.WalkLemmas.{first_value-rows}
use Rattle.words9.specs.Words.{is_on}
use Rattle.words9.proofs.words.is_given.Goals as goal

pub returns-in-Some : goal.returns-in-Some
returns-in-Some c =
    let read = rw c.in-Some.is at (c.get_str.ensures ∙ first_value-rows (found_of c.args.found.now) c.args.option.now) in
    c.eq.ensures ∙ ap is_on read

pub returns-in-None : goal.returns-in-None
returns-in-None c = ap is_on (rw c.in-None.is at (c.get_str.ensures ∙ first_value-rows (found_of c.args.found.now) c.args.option.now))
