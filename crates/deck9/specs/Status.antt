-- What a reply to STATUS SENSE reports.
use Rattle.std.specs.Prelude.{ℕ, ◌-◌, ◌/◌, ◌==◌, ◌&&◌, ◌||◌, nat_lt, Bool, true, if◌then◌else◌, Option, Some, None, option_map, slice_get, bit_and}
use Rattle.std.specs.List.{filter}
use Rattle.block9.specs.declared.block.Block.{Block}
use Rattle.deck9.specs.declared.mode.Mode.{Mode}
use Rattle.deck9.specs.declared.mode.Mode.TheVariants.{Stop, Play, Rec, FastForward, Rewind, Shuttle, Jog, Var, Cued, Eject}
use Rattle.deck9.specs.declared.mode_set.ModeSet.{ModeSet}
use Rattle.deck9.specs.declared.status.RegistersSet.{RegistersSet}
use Rattle.deck9.specs.declared.status.Status.{Status}
use Rattle.deck9.specs.Mode.{every_mode}
use Rattle.deck9.specs.ModeSet.{of_modes}

-- the datum with this number: the request has the number of the first one in its high four bits
abbrev pub datum : ℕ → Block → ℕ → Option ℕ
datum asked reply n = if nat_lt n (asked / 16) then None else slice_get reply.bytes.items (n - asked / 16)

-- a bit of a byte is 1
abbrev pub has_bit : ℕ → ℕ → Bool
has_bit bit byte = bit_and byte bit == bit

-- a datum has these bits set and those clear; one that the reply does not carry fits
abbrev pub has_bits : ℕ → ℕ → Option ℕ → Bool
has_bits set clear None = true
has_bits set clear (Some byte) = bit_and byte set == set && bit_and byte clear == 0

-- these two data may come where the mode is shown: which bits of status datum 1 are set and which are clear, and the same of
-- datum 2; the others are free. A deck without a cassette may also clear every motion bit.
abbrev pub may_show : Option ℕ → Option ℕ → Mode → Bool
may_show datum1 datum2 Stop = has_bits 0x20 0x1F datum1 && has_bits 0x00 0x38 datum2
may_show datum1 datum2 Play = has_bits 0x01 0x3E datum1 && has_bits 0x00 0x38 datum2
may_show datum1 datum2 Rec = has_bits 0x02 0x3C datum1 && has_bits 0x00 0x38 datum2
may_show datum1 datum2 FastForward = has_bits 0x04 0x3B datum1 && has_bits 0x00 0x18 datum2
may_show datum1 datum2 Rewind = has_bits 0x08 0x37 datum1 && has_bits 0x00 0x18 datum2
may_show datum1 datum2 Shuttle = has_bits 0x00 0x12 datum1 && has_bits 0x20 0x18 datum2
may_show datum1 datum2 Jog = has_bits 0x00 0x12 datum1 && has_bits 0x10 0x28 datum2
may_show datum1 datum2 Var = has_bits 0x00 0x12 datum1 && has_bits 0x08 0x30 datum2
may_show datum1 datum2 Cued = has_bits 0x00 0x1F datum1 && has_bits 0x01 0x38 datum2
may_show datum1 datum2 Eject = (has_bits 0x10 0x0F datum1 || has_bits 0x00 0x3F datum1) && has_bits 0x00 0x38 datum2

-- the modes that data 1 and 2 allow, if the reply carries one of them
abbrev pub shown_by : Option ℕ → Option ℕ → Option ModeSet
shown_by None None = None
shown_by datum1 datum2 = Some (of_modes (filter (may_show datum1 datum2) every_mode))

-- which registers datum 3 says to be Set
abbrev pub set_by : ℕ → RegistersSet
set_by byte = record { ins = has_bit 0x01 byte; outs = has_bit 0x02 byte; ains = has_bit 0x04 byte; aouts = has_bit 0x08 byte }

-- each part where the reply carries its data
abbrev pub status_of : ℕ → Block → Status
status_of asked reply = record {
  local = option_map (has_bit 0x01) (datum asked reply 0);
  shown = shown_by (datum asked reply 1) (datum asked reply 2);
  registers = option_map set_by (datum asked reply 3);
}
