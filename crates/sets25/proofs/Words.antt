-- The names from elsewhere that the proofs of this crate cite, passed on from one place. Declares nothing.
pub use Rattle.std.proofs.Common.{[], add-one, All, ap, append-nil, append_assoc, arith, Bool, cond, drop, eqb, false, get_or, Global, insert, is_ok, leb, length}
pub use Rattle.std.proofs.Common.{length-append, length-drop, length-take, List, ltb, map, MatchOption, max, min, nat_cmp, nat_eq, None, not, Option, refl, remove, rules, set}
pub use Rattle.std.proofs.Common.{slice_get, Some, SomeIff, suc, sym, take, true, Vec, zero, ℕ, ◌&&◌, ◌*◌, ◌++◌, ◌+◌, ◌-◌, ◌/◌, ◌<◌, ◌||◌, ◌↔◌, ◌∙◌, ◌∷◌, ◌≡◌, ◌≤◌}
pub use Rattle.std.proofs.lemmas.Bool.{and_right, eq-eqb, eqb-true, false≢true, le-leb, lt-leb, lt-ltb, true_from_ne_false}
pub use Rattle.std.proofs.lemmas.Bool.Decides.{nat_tests}
pub use Rattle.std.proofs.lemmas.Grind.{common_steps, drop_more_same}
pub use Rattle.std.proofs.lemmas.List.{drop-append-le, drop-map, drop-set-lt, drop_all, drop_more, get_or-drop, get_or-map, get_or-set_same, get_or-take, get_or_default}
pub use Rattle.std.proofs.lemmas.List.{length-map, length-take-le, map-append, map-set, set-get_or, set_at, set_split, take-append-drop, take-map, take-set, take_more}
pub use Rattle.std.proofs.lemmas.List.{take_more_set, take_rest}
pub use Rattle.std.proofs.lemmas.List.Edits.{get_or-insert_below, map_over_more}
pub use Rattle.std.proofs.lemmas.List.Elements.{All-append, All-cons, All-drop, All-nil, All-set, All-take}
pub use Rattle.std.proofs.lemmas.List.Folds.{Any-from_list_any, list_any-append, list_any_at, list_any_none}
pub use Rattle.std.proofs.lemmas.List.Sorted.{IsNonDecreasingBy-from_default, IsPartitionedBy-leb, IsPartitionedBy-ltb, IsPartitionPoint-from_clause, searched}
pub use Rattle.std.proofs.lemmas.Result.{on_err_weaker, on_ok_weaker}
pub use Rattle.std.specs.Cmp.{nat_cmp_total, unsigned_tied}
pub use Rattle.std.specs.List.{list_any}
pub use Rattle.std.specs.List.Sorted.{IsNonDecreasingBy}
pub use Rattle.tc25.specs.Day.{day, last_frame, longest_day, next_frame, prev_frame}
pub use Rattle.sets25.specs.Frames.{AreFramesOfDay, Ascending, is_listed}
pub use Rattle.sets25.specs.HeldSpans.{spans_held}
pub use Rattle.sets25.specs.ListSet.{members_of}
pub use Rattle.sets25.specs.ShortLists.{AllFilled, end_to_end, lists_in}
pub use Rattle.sets25.specs.SpanList.{lists_of, spans_of}
pub use Rattle.sets25.specs.Spans.{AreSpansOfDay, in_span, is_covered, IsCanonical, IsSpan}
pub use Rattle.sets25.specs.Times.{BelowDay, every_time, IsLeast, Times, times_where}
unfoldable pub use Rattle.sets25.specs.Times.{begin_count, frames_below, image, just, span_count}
pub use Rattle.sets25.specs.Working.Moves.{far_edge_of, moved, moved_from}
pub use Rattle.sets25.specs.Working.ShortLists.{begin_of, ended_at, IsListPlace, meet, only_span}
pub use Rattle.sets25.specs.Working.SpanLists.{EndsBefore, glue, IsPlace, joined, stays, with_frame, without_edge}
pub use Rattle.sets25.specs.Working.SpanMoves.{point, shifted_span, widened_span}
pub use Rattle.sets25.specs.Working.TimesWhere.{contains-every_time, contains-frames_below, contains-retain_nat, contains-times_where, times_where_below}
pub use Rattle.sets25.specs.declared.direction.Direction.{Direction}
pub use Rattle.sets25.specs.declared.direction.Direction.TheVariants.{Next, Prev}
pub use Rattle.sets25.specs.declared.span.Span.{Span}
pub use Rattle.tc25.specs.declared.rate.Rate.{Rate}
