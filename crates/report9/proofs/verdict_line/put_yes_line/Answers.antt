use Rattle.report9.proofs.Words.{append_assoc, codes, List, on_ok_weaker, ℕ, ◌++◌, ◌≡◌}
use Rattle.std.specs.Fmt.{decimal}
use Rattle.report9.proofs.verdict_line.put_yes_line.Goals as goal

-- three pieces of two, and a last one
pieces : (l a b c d e f g w x y z : List ℕ) → w ≡ l ++ (a ++ b) → x ≡ w ++ (c ++ d) → y ≡ x ++ (e ++ f) → z ≡ y ++ g → z ≡ l ++ (a ++ b ++ c ++ d ++ e ++ f ++ g)
pieces l a b c d e f g w x y z p q r s = rw (s, r, q, p) (simp append_assoc)

pub returns : goal.returns
returns g c =
    on_ok_weaker c.put_text.result (λ last. pieces (g.B.TextBuffer.held c.args.line.now) (codes "yes: records ") (decimal c.args.records)
    (codes ", exchanges ") (decimal c.args.exchanges) (codes ", open ") (decimal c.args.tail) (codes "\n") _ _ _ _
    (rw c.from.ensures at c.in_ok-put_count.ensures) c.in_ok-put_count-2.ensures
    (rw c.from-2.ensures at c.in_ok-put_count-3.ensures) last) c.put_text.ensures
