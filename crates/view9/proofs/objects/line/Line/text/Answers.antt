use Rattle.std.proofs.Common.{rules, ◌≡◌, []}
use Rattle.view9.proofs.JsonLines.{a_line}
use Rattle.view9.proofs.objects.line.Line.text.Goals as goal

pub returns : goal.returns
returns c =
    let empty : c.new-out.result.before ≡ [] = search rules in
    a_line c.new-out.result c.begin_object.new.self c.write_members.new.out c.end_object.new.self c.into_inner.result.items c.new-out.ensures.tokens empty
    (c.in_ok-begin_object.ensures.ok, c.in_ok-begin_object.ensures.room.0) c.in_ok-write_members.ensures
    (c.in_ok-end_object.ensures.ok, c.in_ok-end_object.ensures.room.0) c.into_inner.ensures.items
