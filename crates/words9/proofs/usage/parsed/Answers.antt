use Rattle.std.proofs.Common.{◌≡◌, ◌∙◌, ap, map, refl, subst, true}
use Rattle.std.proofs.lemmas.Result.{IfOk-weaker}
use Rattle.std.specs.String.{string_bytes}
use Rattle.clap.specs.Words.{FailsBy, fault_of, is_simple, is_simple_and_free, subcommand_of}
use Rattle.words9.specs.Words.{RateNames, program}
use Rattle.words9.proofs.usage.parsed.Goals as goal

-- the program is of the kind whose errors are known by their kinds: no argument has a rule on another
is_free : (names : RateNames) → is_simple_and_free (program names) ≡ true
is_free names = refl

pub returns-clause-kinds : goal.returns-clause-kinds
returns-clause-kinds c =
    subst (λ app. is_simple_and_free app ≡ true → FailsBy (fault_of app (map (λ s. string_bytes s) c.args.words.now)) c.try_get_matches_from.result)
    c.in_ok-command.ensures
    c.try_get_matches_from.ensures.kinds (is_free c.args.rates)

pub returns-clause-matches : goal.returns-clause-matches
returns-clause-matches c =
    let is_whole = c.in_ok-command.ensures in
    IfOk-weaker c.try_get_matches_from.result _ _
    (λ m has. (has (ap is_simple is_whole)).1 ∙ ap (λ app. subcommand_of app (map (λ s. string_bytes s) c.args.words.now)) is_whole)
    c.try_get_matches_from.ensures.matches
