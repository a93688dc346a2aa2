-- the subcommand with the first of its arguments
use Rattle.std.proofs.Common.{false, take, ◌≡◌}
use Rattle.std.specs.List.{fold}
use Rattle.clap.specs.Words.{app_of, new_app}
use Rattle.clap.specs.declared.builder.command.Command.TheViews.{out-Command as fields_of}
use Rattle.words9.specs.Working.{with_argument}
use Rattle.words9.specs.Words.{name_of}
use Rattle.words9.proofs.usage.subcommand.Given as goal

abbrev pub invariant-loop-argument : goal.invariant-loop-argument
invariant-loop-argument l = record {
  app : app_of l.command ≡ fold (with_argument l.names.rates) (new_app (name_of l.fn.verb)) (take l.argument-index l.arguments);
  local : (fields_of l.command).has_globals ≡ false;
}
