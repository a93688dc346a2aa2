use Rattle.sets25.proofs.CountLemmas.{begin_count-empty, begin_count-every_time, begin_count-insert, begin_count-just, begin_count-kept, begin_count-next, begin_count-prev}
use Rattle.sets25.proofs.CountLemmas.{begin_count-span_count, begin_count-widened_next, begin_count-widened_prev, span_count-begin_count, span_count-in_day}
use Rattle.sets25.proofs.laws.span_counts.Goals as goal

pub returns : goal.returns
returns c = record {
  shift_next = begin_count-next;
  shift_prev = begin_count-prev;
  widen_next = begin_count-widened_next;
  widen_prev = begin_count-widened_prev;
  add = begin_count-insert;
  spans = span_count-begin_count;
  keep_only = begin_count-kept;
  none = begin_count-empty;
  all = begin_count-every_time;
  one = begin_count-just;
  greatest = span_count-in_day;
  begins = begin_count-span_count;
}
