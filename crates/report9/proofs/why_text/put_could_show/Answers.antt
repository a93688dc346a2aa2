use Rattle.report9.proofs.Words.{append_assoc, line_of_could_show, List, on_ok_weaker, ℕ, ◌++◌, ◌≡◌}
use Rattle.report9.proofs.why_text.put_could_show.Goals as goal

-- four pieces
pieces : (l a b c d w x y z : List ℕ) → w ≡ l ++ a → x ≡ w ++ b → y ≡ x ++ c → z ≡ y ++ d → z ≡ l ++ (a ++ b ++ c ++ d)
pieces l a b c d w x y z p q r s = rw (s, r, q, p) (simp append_assoc)

pub returns : goal.returns
unfolding line_of_could_show
returns c = on_ok_weaker c.put_text-2.result (λ last. pieces _ _ _ _ _ _ _ _ _ c.in_ok-put_text.ensures c.in_ok-put_shown.ensures c.in_ok-put_fields_for.ensures
    last) c.put_text-2.ensures
