use Rattle.std.proofs.Common.{append-nil, Err, append_assoc, ap, arith, sym, ◌++◌, ◌∙◌, refl, [], ◌+◌, ◌-◌, ◌≡◌}
use Rattle.std.proofs.lemmas.List.{drop_all}
use Rattle.std.proofs.KnownBytes.{Appends-kept, Appends-nil, Appends-trans}
use Rattle.csv.specs.Writing as Csv
use Rattle.convert9.specs.Spelled.{header, rows_text, spelled}
use Rattle.convert9.proofs.Spelling.{capture-read, if_ok, nothing, rises-more, row-more}
use Rattle.convert9.proofs.write.write_capture.Goals as goal

pub loop-record-init : goal.loop-record-init
loop-record-init g c = record {
  text = [];
  wrote = Appends-nil _;
  whole = refl;
  rises = λ rest. rw (sym c.in_ok-capture.ensures.begun.last) rest;
  count = c.in_ok-capture.ensures.begun.count;
  first = λ _. c.in_ok-capture.ensures.begun.last;
  last = λ lt. omega arith;
}

pub returns-in_err-put-clause-none : goal.returns-in_err-put-clause-none
returns-in_err-put-clause-none g c = λ none rows.
    let so_far = c.loop-record.invariant in
    let i = c.loop-record.record-index in
    let before = rows.in_order (i - 1) i nothing (omega arith) c.loop-record-test.true in
    (c.in_err-put.ensures.none (ap Err (sym (rw none at c.from_residual-in_err-put.ensures.1)))).0 (
      omega (arith, so_far.count, rows.within),
      grind (arith, so_far.first, so_far.last, before),
      rows.in_range i nothing c.loop-record-test.true,
      rows.bytes i nothing c.loop-record-test.true,
    )

pub loop-record-preserved : goal.loop-record-preserved
loop-record-preserved g c =
    let so_far = c.loop-record.invariant in
    let row = Csv.row_text Csv.default_writer (spelled _) in
    let taken = c.in_ok-put.ensures.taken in
    let same : c.loop-record.record-index + 1 - 1 ≡ c.loop-record.record-index = omega arith in
    record {
      text = so_far.text ++ row;
      wrote = Appends-trans _ _ _ so_far.text row so_far.wrote taken.1.text;
      whole = append_assoc so_far.text row _ ∙ ap (λ t. so_far.text ++ t) (sym (row-more _ _ _ c.loop-record-test.true)) ∙ so_far.whole;
      rises = λ rest. so_far.rises (rises-more _ _ _ _ c.loop-record-test.true taken.0.1 taken.0.2 taken.0.3 (rw taken.1.last at rest));
      count = taken.1.count ∙ ap (λ n. n + 1) so_far.count;
      first = λ e. omega arith;
      last = λ lt. rw same taken.1.last;
    }

pub returns-clause-read : goal.returns-clause-read
returns-clause-read g c =
    let all = c.loop-record.invariant in
    let no_more = drop_all c.loop-record.record-index c.args.records.now c.loop-record-test.false in
    let first = Csv.row_text Csv.default_writer header in
    let whole : all.text ≡ rows_text c.args.records.now = sym (append-nil all.text) ∙ (rw no_more at all.whole) in
    if_ok c.end.result (λ w kept. record {
      text = first ++ all.text;
      is_behind = Appends-kept _ _ _ _ (Appends-trans _ _ _ first all.text c.in_ok-capture.ensures.begun.text all.wrote) kept;
      is_read = λ limit few. rw whole (capture-read limit c.args.records.now few (all.rises (rw no_more tt)));
    }) c.end.ensures.text
