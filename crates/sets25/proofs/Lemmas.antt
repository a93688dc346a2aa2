-- What the answers cite, passed on from one place. Declares nothing.
pub use Rattle.sets25.proofs.Words.{[], add-one, ap, append-nil, append_assoc, arith, begin_of, common_steps, contains-every_time, drop, drop-map, drop-set-lt, drop_all, drop_more}
pub use Rattle.sets25.proofs.Words.{drop_more_same, end_to_end, ended_at, eq-eqb, eqb, false, false≢true, far_edge_of, get_or, get_or-drop, get_or-insert_below, get_or-take}
pub use Rattle.sets25.proofs.Words.{get_or_default, Global, image, is_covered, is_ok, IsNonDecreasingBy-from_default, IsPartitionedBy-leb, IsPartitionedBy-ltb}
pub use Rattle.sets25.proofs.Words.{IsPartitionPoint-from_clause, leb, length, length-append, length-drop, length-take, list_any_at, lists_in, lists_of, ltb, map-append}
pub use Rattle.sets25.proofs.Words.{map_over_more, members_of, nat_cmp, nat_cmp_total, nat_tests, Next, next_frame, on_err_weaker, on_ok_weaker, Prev, prev_frame, refl, remove}
pub use Rattle.sets25.proofs.Words.{rules, searched, set, set-get_or, set_split, shifted_span, Span, spans_held, spans_of, suc, sym, take, take-append-drop, take-map, take_more_set, take_rest}
pub use Rattle.sets25.proofs.Words.{true, Vec, with_frame, ◌+◌, ◌-◌, ◌/◌, ◌<◌, ◌∙◌, ◌∷◌, ◌≡◌}
pub use Rattle.sets25.proofs.TimesLemmas.{contains-just, contains-moved, even_day, image_from, image_to, least_from, none_passes, times_where-common, times_where-empty}
pub use Rattle.sets25.proofs.TimesLemmas.{times_where-every, times_where-insert, times_where-just, times_where-moved, times_where-union, times_where-widened, two_iff}
pub use Rattle.sets25.proofs.ListLemmas.{of_day-listed, of_day_at, Ascending-insert, ascends_at, ascends_between, in_list, is_empty_iff, is_listed-insert, least_some, listed_moved, only_one, only_other}
pub use Rattle.sets25.proofs.SpansLemmas.{canonical_at, canonical_parts, canonical_shift, canonical_widen, canonical_with, covered_at, covered_shift, covered_widened, covered_with}
pub use Rattle.sets25.proofs.SpansLemmas.{edge_at_end, edge_at_start, glue-glue, lasts_rise, neighbour_covered, put_touching, uncovered_near, with_frame-alone, with_frame-grown}
pub use Rattle.sets25.proofs.SpanListLemmas.{added_is, all_filled, around, begins_rise, begun_still, behind_more, canonical_changed, canonical_list, copied_more, covered_is, cut_suc, dropped}
pub use Rattle.sets25.proofs.SpanListLemmas.{end_to_end-append, ended_at-set, filled_inserted, filled_remove, filled_set, filled_vector, inserted, length-ended_at, lists_in-at}
pub use Rattle.sets25.proofs.SpanListLemmas.{lists_in-get, lists_in-length, lists_in-set, lists_set, meet-nil, meets, only_span-none, place_is, some_changed, some_with_frame}
pub use Rattle.sets25.proofs.SpanListLemmas.{spans_fit}
pub use Rattle.sets25.proofs.SpanSetLemmas.{is_empty_iff-spans, least_some-spans, only_one-spans, only_other-spans, only_wide, span_count-spans}
pub use Rattle.sets25.proofs.SharedSetLemmas.{changed_alone, empty_parts, with_time-member, with_time-union, least_union, not_empty, only_both, union-empty, union-empty_right}
pub use Rattle.sets25.proofs.TimesLemmas.{kept_of, same_times, same_rate, some_day, with_time-alone, with_time-insert, with_time-same, within_longest}
pub use Rattle.sets25.proofs.SpansLemmas.{covered_in_day, of_day-added, of_day-from_covered, of_day-kept, shifted_of_day, widened_of_day, of_day-with}
pub use Rattle.sets25.proofs.Words.{AreSpansOfDay, BelowDay, Rate, day, last_frame, longest_day}
