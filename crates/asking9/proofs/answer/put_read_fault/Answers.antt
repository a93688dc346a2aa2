use Rattle.std.proofs.Common.{codes, ◌++◌}
use Rattle.std.proofs.lemmas.Result.{on_ok_weaker}
use Rattle.std.specs.Fmt.{decimal}
use Rattle.asking9.proofs.Answering.{three_pieces}
use Rattle.asking9.proofs.answer.put_read_fault.Goals as goal

pub returns : goal.returns
returns c =
    on_ok_weaker c.put_text-2.result (λ last. three_pieces c.args.text.now.items (codes "read fault ") (codes "at row " ++ decimal c.args.row)
    (codes "\n") _ _ _ c.in_ok-put_text.ensures (rw c.from.ensures at c.in_ok-put_count.ensures) last) c.put_text-2.ensures
