-- The answers to one more of the terms, and pieces of a text.
use Rattle.std.proofs.Common.{[], ap, append_assoc, Bor, get_or, IfSome, length, List, None, option_copied, slice_get, Some, suc, sym, take, zero, ℕ, Option, ◌+◌, ◌-◌, ◌++◌, ◌<◌, ◌∙◌, ◌∷◌, ◌≡◌}
use Rattle.std.proofs.lemmas.List.{take_more}
use Rattle.deck9.specs.declared.deck.Deck.{Deck}
use Rattle.report9.specs.declared.verdict.Scope.{Scope}
use Rattle.asking9.specs.declared.answer.Answer.{Answer}
use Rattle.asking9.specs.declared.terms.Terms.{Terms}
use Rattle.asking9.specs.Asking.{AreAnswers, profile_with}
use Rattle.show9.specs.Showing.{IsChecked}

with_last : (scope : Scope) (deck : Option Deck) (text : List ℕ) (ts : List Terms) (answers : List Answer) (t : Terms) (a : Answer)
    → AreAnswers scope deck text ts answers → a.terms ≡ t → IsChecked scope (profile_with deck t) (Some text) a.ended
    → AreAnswers scope deck text (ts ++ t ∷ []) (answers ++ a ∷ [])
with_last scope deck text [] [] t a are same is = (same, is, tt)
with_last scope deck text (u ∷ ts) (first ∷ answers) t a (at, checked, are) same is = (at, checked, with_last scope deck text ts answers t a are same is)
with_last scope deck text [] (first ∷ answers) t a are same is = absurd are
with_last scope deck text (u ∷ ts) [] t a are same is = absurd are

pub one_more : (scope : Scope) (deck : Option Deck) (text : List ℕ) (all : List Terms) (i : ℕ) (d : Terms) (answers : List Answer) (a : Answer)
    → i < length all → AreAnswers scope deck text (take i all) answers → a.terms ≡ get_or all i d → IsChecked scope (profile_with deck (get_or all i d)) (Some text) a.ended
    → AreAnswers scope deck text (take (i + 1) all) (answers ++ a ∷ [])
one_more scope deck text all i d answers a lt are same is = rw (take_more all i d lt) (with_last scope deck text (take i all) answers (get_or all i d) a are same is)

-- each of them answers its terms, and so does the last
each_is : (scope : Scope) (deck : Option Deck) (text : List ℕ) (ts : List Terms) (answers : List Answer) (i : ℕ) → AreAnswers scope deck text ts answers
    → IfSome (slice_get answers i) (λ a. IsChecked scope (profile_with deck a.terms) (Some text) a.ended)
each_is scope deck text ts [] i are = tt
each_is scope deck text [] (a ∷ answers) i are = absurd are
each_is scope deck text (t ∷ ts) (a ∷ answers) zero (same, checked, are) = rw same checked
each_is scope deck text (t ∷ ts) (a ∷ answers) (suc i) (same, checked, are) = each_is scope deck text ts answers i are

pub last_checked : (scope : Scope) (deck : Option Deck) (text : List ℕ) (ts : List Terms) (answers : List Answer) (last : Option (Bor Answer)) → AreAnswers scope deck text ts answers
    → option_copied last ≡ slice_get answers (length answers - 1) → IfSome last (λ a. IsChecked scope (profile_with deck a.now.terms) (Some text) a.now.ended)
last_checked scope deck text ts answers None are is = tt
last_checked scope deck text ts answers (Some a) are is = rw (sym is) at (each_is scope deck text ts answers (length answers - 1) are)

-- three pieces that are put one after another
pub three_pieces : (old t u v first second last : List ℕ) → first ≡ old ++ t → second ≡ first ++ u → last ≡ second ++ v → last ≡ old ++ ((t ++ u) ++ v)
three_pieces old t u v first second last is then_is at_last =
    at_last ∙ ap (λ xs. xs ++ v) (then_is ∙ ap (λ xs. xs ++ u) is) ∙ append_assoc (old ++ t) u v ∙ append_assoc old t (u ++ v)
    ∙ ap (λ xs. old ++ xs) (sym (append_assoc t u v))

-- four lists, parted otherwise
pub four_pieces : (d c w n : List ℕ) → d ++ (c ++ (w ++ n)) ≡ ((d ++ c) ++ w) ++ n
four_pieces d c w n = sym (append_assoc d c (w ++ n)) ∙ sym (append_assoc (d ++ c) w n)
