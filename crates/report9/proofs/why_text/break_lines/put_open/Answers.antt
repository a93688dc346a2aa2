use Rattle.report9.proofs.Words.{append_assoc, IfOk-equal, lines_of_open, rules}
use Rattle.std.proofs.lemmas.List.{drop_min, take_min}
use Rattle.report9.proofs.why_text.break_lines.put_open.Goals as goal

pub returns : goal.returns
unfolding lines_of_open
returns c =
    let front = take_min c.args.so_far.now.asked c.args.tail.now in
    let back = drop_min c.args.so_far.now.asked c.args.tail.now in
    search (rules, IfOk-equal, append_assoc, front, back)
