use Rattle.std.proofs.Common.{◌∙◌, ap, codes}
use Rattle.clap.specs.Words.{found_of}
use Rattle.clap.proofs.WalkLemmas.{first_value-rows}
use Rattle.words9.specs.Words.{rate_of}
use Rattle.words9.proofs.words.rate_of.Goals as goal

pub returns-in-Some : goal.returns-in-Some
returns-in-Some c =
    let read = rw c.in-Some.is at (c.get_str.ensures ∙ first_value-rows (found_of c.args.found.now) (codes "rate")) in
    c.rate_named.ensures ∙ ap rate_of read

pub returns-in-None : goal.returns-in-None
returns-in-None c = ap rate_of (rw c.in-None.is at (c.get_str.ensures ∙ first_value-rows (found_of c.args.found.now) (codes "rate")))
