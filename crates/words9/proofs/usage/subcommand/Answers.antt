use Rattle.std.proofs.Common.{ap, get_or, length, List, sym, take, ℕ, ◌+◌, ◌<◌, ◌∙◌, ◌≡◌}
use Rattle.std.specs.List.{fold}
use Rattle.std.proofs.lemmas.List.{take_all}
use Rattle.std.proofs.lemmas.List.Folds.{fold-map}
use Rattle.std.proofs.lemmas.List.Sums.{fold_more}
use Rattle.clap.specs.Words.{App, new_app, with_rule}
use Rattle.words9.specs.Working.{rule_for, with_argument}
use Rattle.words9.specs.Words.{RateNames, name_of}
use Rattle.words9.specs.declared.arguments.Argument.{Argument}
use Rattle.words9.proofs.usage.subcommand.Goals as goal

one_more : (names : RateNames) (bare before after : App) (arguments : List Argument) (i : ℕ) (d : Argument) → i < length arguments
    → after ≡ with_argument names before (get_or arguments i d) → before ≡ fold (with_argument names) bare (take i arguments)
    → after ≡ fold (with_argument names) bare (take (i + 1) arguments)
one_more names bare before after arguments i d within added so_far =
    added ∙ ap (λ app. with_argument names app (get_or arguments i d)) so_far ∙ sym (fold_more (with_argument names) bare arguments i d within)

pub loop-argument-preserved : goal.loop-argument-preserved
loop-argument-preserved c = record {
  app = one_more c.args.rates (new_app (name_of c.args.verb)) _ _ c.arguments_of-arguments.result.now c.loop-argument.argument-index _ c.loop-argument-test.true
      c.in_ok-command.ensures.app c.loop-argument.invariant.app;
  local = c.in_ok-command.ensures.local c.loop-argument.invariant.local;
}

pub returns-clause-app : goal.returns-clause-app
returns-clause-app c =
    let bare = new_app (name_of c.args.verb) in
    let arguments = c.arguments_of-arguments.result.now in
    c.loop-argument.invariant.app
    ∙ ap (fold (with_argument c.args.rates) bare) (take_all c.loop-argument.argument-index arguments c.loop-argument-test.false)
    ∙ sym (fold-map with_rule (rule_for c.args.rates) bare arguments)
    ∙ ap (fold with_rule bare) (c.arguments_of-arguments.ensures c.args.rates)
