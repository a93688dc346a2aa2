use Rattle.report9.proofs.Words.{append_assoc, codes, List, on_ok_weaker, ℕ, ◌++◌, ◌≡◌}
use Rattle.std.specs.Fmt.{decimal}
use Rattle.report9.proofs.totals.put_totals_line.Goals as goal

-- five pieces of two, and a last one
pieces : (l a b c d e f g h i j k u v w x y z : List ℕ) → u ≡ l ++ (a ++ b) → v ≡ u ++ (c ++ d) → w ≡ v ++ (e ++ f) → x ≡ w ++ (g ++ h)
    → y ≡ x ++ (i ++ j) → z ≡ y ++ k → z ≡ l ++ (a ++ b ++ c ++ d ++ e ++ f ++ g ++ h ++ i ++ j ++ k)
pieces l a b c d e f g h i j k u v w x y z p q r s t o = rw (o, t, s, r, q, p) (simp append_assoc)

pub returns : goal.returns
returns c =
    on_ok_weaker c.put_text.result (λ last. pieces c.args.line.now.items (codes "breaks ") (decimal c.args.totals.now.breaks)
    (codes ": records ") (decimal c.args.totals.now.records) (codes ", exchanges ") (decimal c.args.totals.now.exchanges)
    (codes ", passed over ") (decimal c.args.totals.now.passed_over) (codes ", open ") (decimal c.args.totals.now.tail) (codes "\n") _ _ _ _ _ _
    c.in_ok-put_count.ensures (rw c.from.ensures at c.in_ok-put_count-2.ensures)
    (rw c.from-2.ensures at c.in_ok-put_count-3.ensures) (rw c.from-3.ensures at c.in_ok-put_count-4.ensures)
    (rw c.from-4.ensures at c.in_ok-put_count-5.ensures) last) c.put_text.ensures
