use Rattle.std.proofs.Common.{ap, codes, ◌++◌, ◌∙◌}
use Rattle.std.proofs.lemmas.Result.{on_ok_weaker}
use Rattle.std.specs.Fmt.{decimal}
use Rattle.asking9.proofs.Answering.{four_pieces, three_pieces}
use Rattle.asking9.proofs.answer.put_bad_row.Goals as goal

pub returns : goal.returns
returns c =
    let old = c.args.text.now.items in
    let parted = four_pieces (decimal c.args.row) (codes ": ") c.args.word.now (codes "\n") in
    on_ok_weaker c.put_end.result (λ last. three_pieces old (codes "unreadable ") (codes "at row " ++ decimal c.args.row)
    (codes ": " ++ c.args.word.now ++ codes "\n") _ _ _ c.in_ok-put_text.ensures (rw c.from.ensures at c.in_ok-put_count.ensures) last
    ∙ ap (λ ts. old ++ (codes "unreadable at row " ++ ts)) parted) c.put_end.ensures
