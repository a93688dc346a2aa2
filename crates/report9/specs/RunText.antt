-- The text of a run: a line for each exchange with the deck's state after it, and the line of the verdict.
use Rattle.std.specs.Prelude.{ℕ, ◌+◌, List, [], ◌∷◌, ◌++◌, length, codes}
use Rattle.std.specs.Fmt.{decimal}
use Rattle.block9.specs.declared.exchange.Exchange.{Exchange}
use Rattle.deck9.specs.declared.knowledge.Known.TheVariants as known
use Rattle.deck9.specs.declared.knowledge.KnownEntry.{KnownEntry}
use Rattle.deck9.specs.declared.knowledge.KnownEntry.TheVariants as entry
use Rattle.deck9.specs.declared.knowledge.Knowledge.{Knowledge}
use Rattle.deck9.specs.declared.state.Entry.{Entry}
use Rattle.deck9.specs.declared.state.Entry.TheVariants.{Clear, At}
use Rattle.deck9.specs.declared.profile.Profile.{Profile}
use Rattle.deck9.specs.declared.state.State.{State}
use Rattle.report9.specs.declared.run_verdict.RunVerdict.{RunVerdict}
use Rattle.report9.specs.declared.run_verdict.RunVerdict.TheVariants as run
use Rattle.report9.specs.declared.verdict.Verdict.TheVariants as verdict
use Rattle.report9.specs.Explanation.{text_of_knowledge}
use Rattle.block9.specs.Exchange.{records_of}
use Rattle.report9.specs.Lines.{line_of}

-- all that can be known of a register: what it holds
abbrev pub known_entry : Entry → KnownEntry
known_entry Clear = entry.Clear
known_entry (At time) = entry.At time

-- all that can be known of a deck: its state
abbrev pub known_state : State → Knowledge
known_state s = record {
  goal = known.Is s.goal;
  shown = known.Is s.shown;
  ins = known_entry s.ins;
  outs = known_entry s.outs;
  ains = known_entry s.ains;
  aouts = known_entry s.aouts;
  local = known.Is s.local;
  panel = known.Is s.panel;
}

-- the line of an exchange, by the number of its reply's last record and the state after it, told field by field as an
-- explanation tells what is known
unfoldable pub line_of_state : Profile → ℕ → State → List ℕ
line_of_state profile at s = (codes "record " ++ decimal at) ++ codes ": " ++ text_of_knowledge profile (known_state s) ++ codes "\n"

-- the lines of exchanges with the states after them, as far as both go; the record of this number is the last before them
abbrev pub lines_of_run : Profile → ℕ → List Exchange → List State → List ℕ
lines_of_run profile at [] states = []
lines_of_run profile at (e ∷ es) [] = []
lines_of_run profile at (e ∷ es) (s ∷ ss) = line_of_state profile (at + records_of e) s ++ lines_of_run profile (at + records_of e) es ss

-- the whole text: the lines of a yes, with the numbers that its records have in the whole capture, and the line of the verdict
abbrev pub text_of_run : Profile → RunVerdict → List ℕ
text_of_run profile (run.Yes past records tail exchanges states) =
    lines_of_run profile past exchanges.items states.items ++ line_of (verdict.Yes records (length exchanges.items) tail)
text_of_run profile (run.No at reason) = line_of (verdict.No at reason)
