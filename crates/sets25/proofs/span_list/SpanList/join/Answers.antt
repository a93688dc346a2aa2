-- The two lists meet at a span that is joined, or they stay as they are.
use Rattle.sets25.proofs.Lemmas.{[], add-one, all_filled, append-nil, append_assoc, arith, around, drop, drop-set-lt, drop_all, drop_more, end_to_end, end_to_end-append, ended_at}
use Rattle.sets25.proofs.Lemmas.{get_or, length, lists_in-get, lists_in-length, lists_of, meet-nil, take_more_set, ◌+◌, ◌<◌}
use Rattle.sets25.proofs.span_list.SpanList.join.Goals as goal

pub meeting-requires-clause-some : goal.meeting-requires-clause-some
meeting-requires-clause-some c =
    let l = c.args.self.now in
    let next = all_filled l.rest.items l.filled c.args.place l.first (omega arith) in (
      rw c.list.ensures c.requires.some,
      rw (c.list-then-place-len.ensures, add-one c.args.place, lists_in-get l.rest.items c.args.place l.first (omega arith))
          next,
    )

pub returns-in-Some : goal.returns-in-Some
returns-in-Some c =
    let ls = lists_of c.args.self.now in
    let p = c.args.place in
    let h : p + 1 < length ls = omega (arith, lists_in-length) in
    let e = ended_at c.in-Some.last (get_or ls p []) in
    grind (
      arith,
      take_more_set ls p e,
      end_to_end-append,
      append-nil,
      drop-set-lt (p + 1) ls p e,
      drop_more ls (p + 1) [] h,
      append_assoc,
      c.in-Some.ensures
          (end_to_end (drop (p + 1 + 1) ls)),
    )

pub returns-in_default : goal.returns-in_default
returns-in_default c =
    let ls = lists_of c.args.self.now in
    let p = c.args.place in
    grind (arith, lists_in-length, around ls p, drop_more ls (p + 1) [], c.in_default.ensures (end_to_end (drop (p + 1 + 1) ls)))

pub returns-else-place-len : goal.returns-else-place-len
returns-else-place-len c =
    grind (arith, lists_in-length, around (lists_of c.args.self.now) c.args.place, drop_all (c.args.place + 1) (lists_of c.args.self.now), append-nil, meet-nil)
