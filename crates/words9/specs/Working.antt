-- What the clauses of private functions cite. No public contract reaches it, so no reader has to believe it.
use Rattle.std.specs.Prelude.{◌≡◌, ℕ, List, Option, Some, None}
use Rattle.std.specs.String.{string_bytes}
use Rattle.clap.specs.Words.{App, Row, Rule, Text, first_of, with_rule}
use Rattle.words9.specs.Values.{HasNoValue}
use Rattle.words9.specs.Words.{RateNames, file_rule, rate_rule, switch_rule, value_rule, values_rule}
use Rattle.words9.specs.declared.arguments.Argument.{Argument}
use Rattle.words9.specs.declared.arguments.Argument.TheVariants as argument
use Rattle.words9.specs.declared.task.NoValue.{NoValue}
use Rattle.words9.specs.declared.task.Unfit.TheVariants.{Malformed}
use Rattle.words9.specs.declared.task.WordsFault.{WordsFault}
use Rattle.words9.specs.declared.task.WordsFault.TheVariants as fault

-- the rule of an argument, as the code has it
abbrev pub rule_for : RateNames → Argument → Rule
rule_for names (argument.File id help) = file_rule id.now
rule_for names (argument.Switch name help) = switch_rule name.now
rule_for names (argument.Unoffered name) = switch_rule name.now
rule_for names (argument.Value id long called help) = value_rule id.now long.now
rule_for names (argument.Values id long called help) = values_rule id.now long.now
rule_for names (argument.Rate help) = rate_rule names

-- a command with one argument more
abbrev pub with_argument : RateNames → App → Argument → App
with_argument names app argument = with_rule app (rule_for names argument)

-- an option was given this, first, and by this reading it names nothing
pub record NamesNone (read : Text → Option ℕ) (option : Text) (rows : List Row) (v : NoValue) : Type 0 where
  pub is_of : v.option.now ≡ option
  pub is_malformed : v.unfit ≡ Malformed
  pub given : first_of option rows ≡ Some (string_bytes v.value)
  pub none : read (string_bytes v.value) ≡ None

-- why the value of one option is not read: it names nothing, or memory was refused
abbrev pub IsUnread : (Text → Option ℕ) → Text → List Row → WordsFault → Type 0
IsUnread read option rows (fault.Usage o) = ⊥
IsUnread read option rows fault.Version = ⊥
IsUnread read option rows (fault.NoValue v) = NamesNone read option rows v
IsUnread read option rows fault.NoMemory = Unit {0}

-- why there is no task of words that the program takes: a value that an option can't have, or memory was refused
abbrev pub IsNoTaskOf : List Row → WordsFault → Type 0
IsNoTaskOf rows (fault.Usage o) = ⊥
IsNoTaskOf rows fault.Version = ⊥
IsNoTaskOf rows (fault.NoValue v) = HasNoValue rows v
IsNoTaskOf rows fault.NoMemory = Unit {0}
