use Rattle.std.proofs.Common.{[], map, ◌∙◌, ap}
use Rattle.std.proofs.lemmas.List.{take_all}
use Rattle.std.specs.Option.{unwrap_or}
use Rattle.std.specs.String.{string_bytes}
use Rattle.clap.specs.Words.{found_of}
use Rattle.clap.proofs.WalkLemmas.{raw_values-rows}
use Rattle.words9.proofs.words.values_of.Goals as goal

pub returns : goal.returns
returns c =
    let read = rw c.in-Some.is at (c.get_raw.ensures ∙ raw_values-rows (found_of c.args.found.now) c.args.argument.now) in
    c.loop-value.invariant ∙ ap (map (λ v. v.now)) (take_all c.loop-value.value-index c.in-Some.given.now c.loop-value-test.false)
    ∙ ap (λ o. unwrap_or o []) read

pub returns-in_default : goal.returns-in_default
returns-in_default c =
    ap (map (λ s. string_bytes s)) c.new-values.ensures.items
    ∙ ap (λ o. unwrap_or o []) (rw c.in_default.is at (c.get_raw.ensures ∙ raw_values-rows (found_of c.args.found.now) c.args.argument.now))
