-- The names from elsewhere, and those of the definitions, that the proofs of this crate cite, passed on from one place. Declares nothing.
pub use Rattle.block9.proofs.SpellingLemmas.{last_time-last}
pub use Rattle.block9.specs.Line.{bytes_of}
pub use Rattle.block9.specs.declared.exchange.Exchange.{Exchange}
pub use Rattle.block9.specs.declared.open.Open.{Open}
pub use Rattle.block9.specs.declared.reason.Reason.{Reason}
pub use Rattle.capture9.specs.declared.line_byte.LineByte.{LineByte}
pub use Rattle.capture9.specs.declared.line_byte.Wire.{Wire}
pub use Rattle.deck9.proofs.ModeSetLemmas.{some_any}
pub use Rattle.deck9.specs.declared.profile.Profile.{Profile}
pub use Rattle.deck9.specs.declared.state.State.{State}
pub use Rattle.report9.specs.RunText.{lines_of_run}
unfoldable pub use Rattle.report9.specs.Bytes.{text_of_block, text_of_head}
unfoldable pub use Rattle.report9.specs.ExchangeBytes.{text_of_command_sent, text_of_exchange, text_of_records, text_of_reply_given, text_of_reply_sent, words_of}
unfoldable pub use Rattle.report9.specs.Explanation.{line_of_exchange, text_of_knowledge, text_of_nak, text_of_runs}
unfoldable pub use Rattle.report9.specs.RunText.{line_of_state}
pub use Rattle.report9.specs.WhyText.{end_before, lines_at}
unfoldable pub use Rattle.report9.specs.WhyText.{line_if_ended, line_of_breaking, line_of_could_show, line_of_open, lines_of_break, lines_of_open}
pub use Rattle.report9.specs.declared.why_no.EndedExchange.{EndedExchange}
pub use Rattle.report9.specs.declared.why_no.WhyNo.{WhyNo}
pub use Rattle.std.proofs.Common.{[], ap, append_assoc, arith, Bool, codes, drop, drop-cons, get_or, if◌then◌else◌, inl, inr, length, length-append, List, map, None, Option, refl}
pub use Rattle.std.proofs.Common.{Err, Global, Ok, OnErr, OnOk, Result, subst, take, Vec, ◌≢◌}
pub use Rattle.std.proofs.Common.{rules, slice_get, Some, suc, sym, ℕ, ◌*◌, ◌++◌, ◌+◌, ◌-◌, ◌<◌, ◌∙◌, ◌∷◌, ◌≡◌, ◌≤◌, ◌⊎◌}
pub use Rattle.std.proofs.KnownBytes.{Appends-trans}
pub use Rattle.std.proofs.lemmas.List.{append-nil}
pub use Rattle.std.proofs.lemmas.Result.{IfOk-equal, on_ok_weaker}
pub use Rattle.std.proofs.lemmas.Slice.Zip.{either_empty_from_Zip, Zip-more}
pub use Rattle.std.specs.Io.KnownBytes.{Appends}
pub use Rattle.report9.specs.Bytes.{hex_byte, hex_bytes}
pub use Rattle.report9.specs.Writing.{AppendsPart}
pub use Rattle.block9.specs.Exchange.{records_in, records_of}
pub use Rattle.report9.specs.Lines.{line_of}
pub use Rattle.report9.specs.declared.verdict.Verdict.TheVariants.{the_data as Verdict}
pub use denote.Shadow.{shadow}
pub use denote.Text.{Utf8}
