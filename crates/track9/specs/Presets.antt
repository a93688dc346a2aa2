-- Data presets that were counted, and the spans of a register's times that they allow.
use Rattle.std.specs.Prelude.{ℕ, ◌≡◌, ◌≤◌, ◌+◌, ◌↔◌, ◌&&◌, min, if◌then◌else◌, Bool, true, not}
use Rattle.std.specs.FinSet as set
use Rattle.sets25.specs.Times.{Times, span_count}
use Rattle.block9.specs.declared.block.Block.{Block}
use Rattle.block9.specs.declared.command.Command.{Command}
use Rattle.block9.specs.declared.command.Command.TheVariants as command
use Rattle.block9.specs.Command.{is_nak}
use Rattle.deck9.specs.declared.state.Entry.TheVariants.{At}
use Rattle.deck9.specs.declared.state.Register.{Register}
use Rattle.deck9.specs.declared.state.Register.TheVariants.{RegIn, RegOut, RegAudioIn, RegAudioOut}
use Rattle.deck9.specs.declared.state.State.{State}
use Rattle.deck9.specs.State.{entry_of}

-- how many presets to each register were counted
pub record Presets : Type 0 where
  pub ins : ℕ
  pub outs : ℕ
  pub ains : ℕ
  pub aouts : ℕ

-- those to one register
abbrev pub count_of : Register → Presets → ℕ
count_of RegIn n = n.ins
count_of RegOut n = n.outs
count_of RegAudioIn n = n.ains
count_of RegAudioOut n = n.aouts

-- a number that is counted up, and stays at the greatest that it can be
abbrev pub one_more : ℕ → ℕ
one_more n = min (n + 1) 4294967295

-- the counts with one more preset to a register
abbrev pub with_one : Register → Presets → Presets
with_one RegIn n = record n { ins = one_more n.ins }
with_one RegOut n = record n { outs = one_more n.outs }
with_one RegAudioIn n = record n { ains = one_more n.ains }
with_one RegAudioOut n = record n { aouts = one_more n.aouts }

-- the counts after a command that was acknowledged, or was taken without a reply: a data preset counts
abbrev pub with_command : Command → Presets → Presets
with_command (command.InDataPreset time) n = with_one RegIn n
with_command (command.OutDataPreset time) n = with_one RegOut n
with_command (command.AudioInDataPreset time) n = with_one RegAudioIn n
with_command (command.AudioOutDataPreset time) n = with_one RegAudioOut n
with_command _ n = n

-- the counts after an exchange: a data preset counts that got no NAK, where a state remains
abbrev pub presets_after : Command → Block → Bool → Presets → Presets
presets_after c reply remains n = if not (is_nak reply) && remains then with_command c n else n

-- these are the times at which a register is Set in the states with these values of local and of panel
abbrev pub AreTimes : (State → Type 0) → Register → Bool → Bool → Times → Type 0
AreTimes X r l p times =
    (t : ℕ) → (set.contains times t ≡ true) ↔ ((s : State) × X s × (s.local ≡ l) × (s.panel ≡ p) × (entry_of r s ≡ At t))

-- the greatest number of spans of these sets of times, over the four values of local and of panel
pub record IsSpanCount (X : State → Type 0) (r : Register) (n : ℕ) : Type 0 where
  pub most : (l p : Bool) (times : Times) → AreTimes X r l p times → span_count times ≤ n
  pub met : (l p : Bool) × (times : Times) × AreTimes X r l p times × (span_count times ≡ n)
