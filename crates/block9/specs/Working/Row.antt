-- How the code reads a table of commands: first what it has for a block's first two bytes, with a blank where the data say more,
-- and then the data.
use Rattle.std.specs.Prelude.{ℕ, if◌then◌else◌, Option, Some, None, option_map}
use Rattle.tc25.specs.Day.{time_of}
use Rattle.tc25.specs.declared.rate.Rate.{Rate}
use Rattle.block9.specs.declared.block.Block.{Block}
use Rattle.block9.specs.declared.command.Command.{Command}
use Rattle.block9.specs.declared.command.Command.TheVariants.{AudioInDataPreset, AudioOutDataPreset, CueUpWithData, CurrentTimeSense, InDataPreset, OutDataPreset, StatusSense, Unlisted}
use Rattle.block9.specs.Block.{first_datum}
use Rattle.block9.specs.Command.{is_selector}

-- a command with the data of its block in the place of the blank; the block's first two bytes are these
abbrev pub with_data : Rate → ℕ → Block → Command → Option Command
with_data rate head b (CueUpWithData blank) = option_map CueUpWithData (time_of rate b.bytes.items)
with_data rate head b (InDataPreset blank) = option_map InDataPreset (time_of rate b.bytes.items)
with_data rate head b (OutDataPreset blank) = option_map OutDataPreset (time_of rate b.bytes.items)
with_data rate head b (AudioInDataPreset blank) = option_map AudioInDataPreset (time_of rate b.bytes.items)
with_data rate head b (AudioOutDataPreset blank) = option_map AudioOutDataPreset (time_of rate b.bytes.items)
with_data rate head b (CurrentTimeSense blank) = if is_selector (first_datum b) then Some (CurrentTimeSense (first_datum b)) else Some (Unlisted head)
with_data rate head b (StatusSense blank) = Some (StatusSense (first_datum b))
with_data rate head b c = Some c

-- what a block with these first two bytes means, by what its table has for them
abbrev pub read_off : Rate → ℕ → Block → Option Command → Option Command
read_off rate head b None = Some (Unlisted head)
read_off rate head b (Some c) = with_data rate head b c
