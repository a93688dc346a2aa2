-- The sheets that the words name, and their texts.
use Rattle.std.proofs.Common.{[], arith, Bool, Err, get_or, length, List, map, None, Ok, Option, refl, Result, slice_get, Some, String, subst, suc, sym, take, true, false, zero, ℕ, ◌+◌, ◌++◌, ◌<◌, ◌∷◌, ◌≡◌, inl, inr, ap}
use Rattle.std.specs.Bool.{MatchBool}
use Rattle.std.specs.Global.{Global}
use Rattle.std.specs.Prelude.{Vec, ⊤}
use Rattle.std.specs.declared.io.Error.{Error}
use Rattle.deck9.specs.declared.deck.Deck.{Deck}
use Rattle.sheet9.specs.Sheets.{IsDeckOfAll}
use Rattle.program9.specs.declared.ending.Outcome.{Outcome}
use Rattle.program9.specs.Sheet.{AreTexts, EndsRead, EndsReading, FindsDeck, IsTextOf}

-- the name at a place
pub named_there : (files : List (String Global)) (i : ℕ) (file : String Global) → i < length files → file ≡ get_or files i file → slice_get files i ≡ Some file
named_there (f ∷ files) zero file below is = ap Some (sym is)
named_there (f ∷ files) (suc i) file below is = named_there files i file (omega (arith, below)) is
named_there [] i file below is = absurd (omega (arith, below))

-- the texts with one more
pub mapped_one : (texts : List (Vec ℕ Global)) (text : Vec ℕ Global) → map (λ t. t.items) (texts ++ text ∷ []) ≡ map (λ t. t.items) texts ++ text.items ∷ []
mapped_one [] text = refl
mapped_one (t ∷ texts) text = ap (λ l. t.items ∷ l) (mapped_one texts text)

module _ {S : Type 0} (opens : String Global → Result S Error → Type 0) (coming : S → Option (List ℕ)) where
  texts_and_one : (files : List (String Global)) (texts : List (List ℕ)) (file : String Global) (text : List ℕ) → AreTexts opens coming files texts
      → IsTextOf opens coming file text → AreTexts opens coming (files ++ file ∷ []) (texts ++ text ∷ [])
  texts_and_one [] [] file text are is = (is, tt)
  texts_and_one (f ∷ files) (t ∷ texts) file text are is = (are.0, texts_and_one files texts file text are.1 is)
  texts_and_one [] (t ∷ texts) file text are is = absurd are
  texts_and_one (f ∷ files) [] file text are is = absurd are

  taken_more : (files : List (String Global)) (i : ℕ) (file : String Global) → i < length files → file ≡ get_or files i file
      → take (i + 1) files ≡ take i files ++ file ∷ []
  taken_more files i file below is = subst (λ n. take n files ≡ take i files ++ file ∷ []) next (go files i below is)
    where
      next : suc i ≡ i + 1
      next = omega arith

      go : (files : List (String Global)) (i : ℕ) → i < length files → file ≡ get_or files i file → take (suc i) files ≡ take i files ++ file ∷ []
      go (f ∷ files) zero below is = ap (λ x. x ∷ []) (sym is)
      go (f ∷ files) (suc i) below is = ap (λ l. f ∷ l) (go files i (omega (arith, below)) is)
      go [] i below is = absurd (omega (arith, below))

  -- the text of one more
  pub texts_more : (files : List (String Global)) (i : ℕ) (file : String Global) (texts : List (List ℕ)) (text : List ℕ) → i < length files → file ≡ get_or files i file
      → AreTexts opens coming (take i files) texts → IsTextOf opens coming file text → AreTexts opens coming (take (i + 1) files) (texts ++ text ∷ [])
  texts_more files i file texts text below is are one =
      subst (λ taken. AreTexts opens coming taken (texts ++ text ∷ [])) (sym (taken_more files i file below is)) (texts_and_one (take i files) texts file text are one)

  pub as_many_texts : (files : List (String Global)) (texts : List (List ℕ)) → AreTexts opens coming files texts → length files ≡ length texts
  as_many_texts [] [] are = refl
  as_many_texts (f ∷ files) (t ∷ texts) are = ap suc (as_many_texts files texts are.1)
  as_many_texts [] (t ∷ texts) are = absurd are
  as_many_texts (f ∷ files) [] are = absurd are

  -- what comes of some sheets
  pub finds_none : (files : List (String Global)) → length files ≡ 0 → FindsDeck opens coming files (Ok None)
  finds_none [] none = refl
  finds_none (f ∷ files) none = absurd (omega (arith, none))

  pub finds_deck : (files : List (String Global)) (texts : List (List ℕ)) (deck : Deck) → 0 < length files → AreTexts opens coming files texts → IsDeckOfAll texts deck
      → FindsDeck opens coming files (Ok (Some deck))
  finds_deck (f ∷ files) texts deck some are of_all = (texts, are, of_all)
  finds_deck [] texts deck some are of_all = absurd (omega (arith, some))

  pub ends_reading : (files : List (String Global)) (end : Outcome) → 0 < length files → EndsReading opens coming files end → FindsDeck opens coming files (Err end)
  ends_reading (f ∷ files) end some ends = inl ends
  ends_reading [] end some ends = absurd (omega (arith, some))

  pub ends_read : (files : List (String Global)) (end : Outcome) → 0 < length files → EndsRead opens coming files end → FindsDeck opens coming files (Err end)
  ends_read (f ∷ files) end some ends = inr ends
  ends_read [] end some ends = absurd (omega (arith, some))

-- what is read is a text, whether a name is one of those inside the program or not
pub or_read : {P : Type 0} (b : Bool) → P → MatchBool b ⊤ P
or_read true is = tt
or_read false is = is
