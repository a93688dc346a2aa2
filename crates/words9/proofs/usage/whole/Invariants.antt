-- the program with the first of the subcommands
use Rattle.std.proofs.Common.{take, ◌≡◌}
use Rattle.std.specs.List.{fold}
use Rattle.clap.specs.Words.{app_of}
use Rattle.words9.specs.Words.{top, verbs, with_verb}
use Rattle.words9.proofs.usage.whole.Given as goal

abbrev pub invariant-loop-verb : goal.invariant-loop-verb
invariant-loop-verb l = app_of l.command ≡ fold (with_verb l.names.rates) top (take l.verb-index verbs)
