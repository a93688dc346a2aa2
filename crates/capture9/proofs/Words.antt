-- The names from elsewhere that the proofs of this crate cite, passed on from one place. Declares nothing.
pub use Rattle.capture9.specs.Error.{CanShow, is_of_text, IsAfter, IsAtItsRow}
pub use Rattle.capture9.specs.Fields.{byte_in, decimal_value, greatest_limit, hex_digit_of, is_header, most_rows, time_in, wire_in}
pub use Rattle.capture9.specs.Records.{GivesRecord, GivesRefusal, IsPlaced, Progress, TakesRecord}
pub use Rattle.capture9.specs.RowRules.{AreGood, AreLeft, HasFirstPart, IsFirstOf, last_time, row_kinds, RowBreaks, Spell}
pub use Rattle.capture9.specs.Rows.{bad_row, fields_record, good_row, HasHeader, header_fault, headed_rows, no_rows, record_of, row_fault, row_of, row_then, Rows, rows_from, rows_within, shown_in}
pub use Rattle.capture9.specs.Shown.{in_quotes, is_printable, printed, shown_of, shown_text}
pub use Rattle.capture9.specs.SomeText.{CanBeRows, CanFollow, IsOfSomeText}
pub use Rattle.capture9.specs.Working.{digits_after, HoldsInRecords, is_past_header, IsPlain, records_at, rows_to_come, standing_at, TakesFields, unread_records}
pub use Rattle.capture9.specs.declared.error.CaptureError.{CaptureError}
pub use Rattle.capture9.specs.declared.error.CaptureKind.{CaptureKind}
pub use Rattle.capture9.specs.declared.line_byte.LineByte.{LineByte}
pub use Rattle.capture9.specs.declared.line_byte.Wire.{Wire}
pub use Rattle.capture9.specs.declared.line_byte.Wire.TheVariants.{Controller, Deck}
pub use Rattle.capture9.specs.declared.records.Stage.{Stage}
pub use Rattle.capture9.specs.declared.records.Standing.{Standing}
pub use Rattle.capture9.specs.declared.records.Standing.TheVariants.{Reading}
pub use Rattle.capture9.specs.declared.shown_field.ShownField.{ShownField}
pub use Rattle.csv.proofs.RoundTrip.{read-write}
unfoldable pub use Rattle.csv.proofs.RoundTrip.{rows_text}
pub use Rattle.csv.specs.Machine.{field_after, fields_after, Read, step}
unfoldable pub use Rattle.csv.specs.Machine.{next_record}
pub use Rattle.csv.specs.Reading.{default_config, NextIs, ReadRecord, ReadsNext, records, records_next}
unfoldable pub use Rattle.csv.specs.Reading.{records_from, strip_bom}
pub use Rattle.csv.specs.Records.{fields_of}
unfoldable pub use Rattle.csv.specs.Records.{field_at}
pub use Rattle.csv.specs.Writing.{default_writer, read_back, row_text}
unfoldable pub use Rattle.csv.specs.Writing.{fields_text, is_blank}
pub use Rattle.csv.specs.declared.parser.Config.{Config}
pub use Rattle.csv.specs.declared.parser.State.{State}
pub use Rattle.csv.specs.declared.reader.Reader.{Reader}
pub use Rattle.std.proofs.Common.{cond, Fits, ltb, replicate, w32, w8}
pub use Rattle.std.proofs.Common.{[], add-one, add-zero, All, ap, append-nil, arith, Bool, codes, drop, Err, false, get_or, length, length-append, length-take-le, List, lit<}
pub use Rattle.std.proofs.Common.{lit≤, map, min, nat_lt, None, Ok, Option, option_map, pow-add, pow-suc, refl, Result, rules, Some, suc, sym, take, take-append-drop, true, true≢false, zero, ℕ, ◌%◌}
pub use Rattle.std.proofs.Common.{◌&&◌, ◌*◌, ◌++◌, ◌+◌, ◌-◌, ◌/◌, ◌<◌, ◌^◌, ◌∙◌, ◌∷◌, ◌≡◌, ◌≢◌, ◌≤◌, ◌⊎◌}
pub use Rattle.std.proofs.Math.Nat.{mul-le-mul_left, mul-le-mul_right, pow-le-pow_right}
pub use Rattle.std.proofs.lemmas.Bool.{agree_below_at, and_parts, cond_both, le-leb}
pub use Rattle.std.proofs.lemmas.Bool.Decides.{nat_tests}
pub use Rattle.std.proofs.lemmas.Fmt.{decimal_nonempty, digits_decimal, digits_value-decimal, length-decimal-le}
pub use Rattle.std.proofs.lemmas.List.{drop_more, length-map, length_push, nil_from_length, places, same_lists}
pub use Rattle.std.proofs.lemmas.List.Folds.{list_all-append}
pub use Rattle.std.proofs.lemmas.List.Elements.{All-cons, All-from_recursion, All-push}
pub use Rattle.std.proofs.lemmas.List.Sorted.{IsNonDecreasingBy-insert, IsNonDecreasingBy-push}
pub use Rattle.std.proofs.lemmas.Simd.{bitmask_splat, Each1-zip2, Each2-all, zip2_splat}
pub use Rattle.std.proofs.lemmas.Str.Parse.{digits_value_short, IsNumeralModel, numerals_by_weight, tells_all_ascii_digits}
pub use Rattle.std.specs.Char.{digit_value, is_ascii_digit}
pub use Rattle.std.specs.Fmt.{decimal, HasWritten, IsPlainFormatter}
pub use Rattle.std.specs.List.{AllByRecursion, list_all}
pub use Rattle.std.specs.List.Sorted.{IsNonDecreasingBy}
pub use Rattle.std.specs.Prelude.{IfErr, IfSome, if◌then◌else◌, IsTrue, ⊤, ◌↔◌}
pub use Rattle.std.specs.Result.{result_ok}
pub use Rattle.std.specs.Simd.Lanes.{Each1, fold_l, mask_l, top, zip2}
pub use Rattle.std.specs.Str.{all_ascii_digits}
