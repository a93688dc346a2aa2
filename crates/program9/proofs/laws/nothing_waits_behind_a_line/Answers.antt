use Rattle.std.proofs.Common.{[], ap, arith, get_or, length, length-append, List, None, Option, refl, Some, sym, ℕ, ◌++◌, ◌+◌, ◌∙◌, ◌∷◌, ◌≡◌}
use Rattle.std.proofs.lemmas.List.{get_or-append-add, get_or_push}
use Rattle.std.specs.Io.KnownBytes.{append_known}
use Rattle.program9.specs.WholeLines.{HasNoLine}
use Rattle.program9.proofs.laws.nothing_waits_behind_a_line.Goals as goal

-- what ends with the end of a line ends with nothing in which no line ends
nothing_behind : (front held text : List ℕ) → HasNoLine held → front ++ held ≡ text ++ 0x0A ∷ [] → held ≡ []
nothing_behind front [] text none same = refl
nothing_behind front (x ∷ rest) text none same =
    let size : length front + length rest ≡ length text = omega (arith, ap length same, length-append front (x ∷ rest), length-append text (0x0A ∷ [])) in
    let last : get_or (x ∷ rest) (length rest) 0 ≡ 0x0A =
    sym (get_or-append-add front (x ∷ rest) (length rest) 0) ∙ ap (λ (l : List ℕ). get_or l (length front + length rest) 0) same
    ∙ get_or_push text 0x0A 0 (length front + length rest) (sym size) in
    absurd (none (length rest) (omega arith) last)

known : (written : Option (List ℕ)) (held text : List ℕ) → HasNoLine held → append_known written held ≡ Some (text ++ 0x0A ∷ []) → held ≡ []
known None held text none is = absurd (cc is)
known (Some front) held text none is = let same : front ++ held ≡ text ++ 0x0A ∷ [] = cc is in nothing_behind front held text none same

pub returns : goal.returns
returns g c b text line_buffered failed is = known (g.W.Write.contents b.to) b.held.bytes.items text (b.held.no_line line_buffered failed) is
