use Rattle.block9.proofs.Words.{bytes_of, Controller, LineByte, List, slice_index_or, take, ℕ, ◌/◌, ◌≡◌}
use Rattle.block9.proofs.block.Block.fill_from.Given as goal

-- the byte of a record of these
abbrev byte_at : List LineByte → ℕ → ℕ
byte_at records place = (slice_index_or records place (record { time_us = 0; wire = Controller; byte = 0 })).byte

-- the group, the code, and the data so far
abbrev pub invariant-loop-record : goal.invariant-loop-record
invariant-loop-record l = record {
  group : l.self.group ≡ byte_at l.fn.records 0 / 16;
  code : l.self.code ≡ byte_at l.fn.records 1;
  so_far : l.self.bytes.items ≡ bytes_of (take l.record-index l.record-items);
}
