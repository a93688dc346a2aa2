use Rattle.std.proofs.Common.{drop, get_or, List, ℕ, ◌++◌, ◌≡◌, ◌<◌, ◌-◌}
use Rattle.std.specs.Io.KnownBytes.{Appends}
use Rattle.convert9.specs.Spelled.{rows_text}
use Rattle.convert9.proofs.Spelling.{Rises, nothing}
use Rattle.convert9.proofs.write.write_capture.Given as goal

-- what was written behind the header, with the rows that are still to come, is the whole; and where these rise, all do
abbrev pub invariant-loop-record : goal.invariant-loop-record
invariant-loop-record g l = record {
  text : List ℕ;
  wrote : Appends l.initial.capture.text l.capture.text text;
  whole : text ++ rows_text (drop l.record-index l.records) ≡ rows_text l.records;
  rises : Rises l.capture.last_us (drop l.record-index l.records) → Rises 0 l.records;
  count : l.capture.count ≡ l.record-index;
  first : l.record-index ≡ 0 → l.capture.last_us ≡ 0;
  last : 0 < l.record-index → l.capture.last_us ≡ (get_or l.records (l.record-index - 1) nothing).time_us;
}
