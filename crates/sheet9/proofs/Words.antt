-- The names from elsewhere that the proofs of this crate cite, passed on from one place. Declares nothing.
pub use Rattle.deck9.proofs.Words.{[], arith, Bool, common_steps, drop, every_mode, Exchange, false, HasRun, if◌then◌else◌, index_of, length, List, modes, nat_tests, None}
pub use Rattle.deck9.proofs.Words.{inl, inr, Option, refl, rules, Some, suc, sym, true, way_of, ℕ, ◌+◌, ◌++◌, ◌/◌, ◌<◌, ◌==◌, ◌↔◌, ◌∙◌, ◌∷◌, ◌≡◌, ◌≤◌, ◌⊎◌}
pub use Rattle.deck9.specs.declared.mode.Mode.TheVariants.{Stop, the_data as Mode}
pub use Rattle.sheet9.specs.Modes.{mode_named, with_names}
pub use Rattle.sheet9.specs.Passes.{own_ways, passes_of}
pub use Rattle.sheet9.specs.Refusal.{line_after}
pub use Rattle.sheet9.specs.Sheet.{IsDeckOf, Sheet, unknown_key}
pub use Rattle.capture9.specs.Shown.{is_printable}
pub use Rattle.sheet9.specs.Text.{error_text, escaped, words_of}
pub use Rattle.std.proofs.Common.{ap, append_assoc, cond, encode_utf8, encode_utf8_all, find, flat_map, nat_cmp, nat_lt, slice_index, slice_index_or, take, zero, ◌%◌}
pub use Rattle.std.proofs.lemmas.Bool.{agree_below_at, cond_both}
pub use Rattle.std.specs.Fmt.{decimal, digit_glyph, digits_onto, HasWritten, IsPlainFormatter}
pub use Rattle.std.specs.Str.{bytes_eq, IsValidUpTo}
pub use Rattle.toml.specs.View.{items_view, members_view}
