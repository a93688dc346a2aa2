-- Lists of sheets, and what each says.
use Rattle.sheet9.proofs.Words.{[], arith, IsDeckOf, length, List, nat_cmp, None, Option, refl, Sheet, Some, suc, sym, take, ℕ, ◌++◌, ◌<◌, ◌∙◌, ◌∷◌, ◌≡◌}
use Rattle.std.proofs.Common.{ap, get_or, slice_get, subst, zero}
use Rattle.std.specs.BTreeMap.{BTreeMap, get}
use Rattle.std.specs.Prelude.{Err, IsOkAnd, map, Ok, option_map, Result, Vec}
use Rattle.std.specs.Global.{Global}
use Rattle.std.proofs.lemmas.List.{length-map}
use Rattle.std.specs.List.{fold}
use Rattle.deck9.specs.declared.deck.Deck.{Deck}
use Rattle.sheet9.specs.declared.said.Said.{Said}
use Rattle.sheet9.specs.Entries.{said_at}
use Rattle.sheet9.specs.Sheet.{sheet_of}
use Rattle.sheet9.specs.Sheets.{Agree, AgreesWithEach, AllAgree, AreRead, EachAgrees, either_said, IsDeckOfAll, together}
use Rattle.sheet9.specs.Working.{AreSaid, IsSaid}

-- what is said at a command by the entries of two tables
pub said_by_both : {A : Type 0} (more one : List (ℕ × A)) (head : ℕ) → said_at (more ++ one) head ≡ either_said (said_at more head) (said_at one head)
said_by_both [] one head = refl
said_by_both ((h, x) ∷ more) one head = grind (arith, said_by_both more one head)

-- the same by a map of what both say
pub said_in_both : {V A : Type 0} (read : V → A) (one more : List (ℕ × A)) (old other new : BTreeMap ℕ V)
    → ((head : ℕ) → get nat_cmp new head ≡ either_said (get nat_cmp other head) (get nat_cmp old head))
    → ((head : ℕ) → option_map read (get nat_cmp old head) ≡ said_at one head) → ((head : ℕ) → option_map read (get nat_cmp other head) ≡ said_at more head)
    → (head : ℕ) → option_map read (get nat_cmp new head) ≡ said_at (more ++ one) head
said_in_both {V = V} {A = A} read one more old other new both is_one is_more head =
    ap (option_map read) (both head) ∙ mapped (get nat_cmp other head) (get nat_cmp old head)
    ∙ (λ i. either_said (is_more head i) (is_one head i)) ∙ sym (said_by_both more one head)
  where
    mapped : (x y : Option V) → option_map read (either_said x y) ≡ either_said (option_map read x) (option_map read y)
    mapped (Some x) y = refl
    mapped None y = refl

-- the same where the map has what is said itself
pub said_as_is : {A : Type 0} (one more : List (ℕ × A)) (old other new : BTreeMap ℕ A)
    → ((head : ℕ) → get nat_cmp new head ≡ either_said (get nat_cmp other head) (get nat_cmp old head))
    → ((head : ℕ) → get nat_cmp old head ≡ said_at one head) → ((head : ℕ) → get nat_cmp other head ≡ said_at more head)
    → (head : ℕ) → get nat_cmp new head ≡ said_at (more ++ one) head
said_as_is one more old other new both is_one is_more head =
    both head ∙ (λ i. either_said (is_more head i) (is_one head i)) ∙ sym (said_by_both more one head)

-- ---- each has what its sheet says

pub as_many : (sheets : List Sheet) (all : List Said) → AreSaid sheets all → length sheets ≡ length all
as_many [] [] said = refl
as_many (s ∷ sheets) (x ∷ all) said = ap suc (as_many sheets all said.1)
as_many [] (x ∷ all) said = absurd said
as_many (s ∷ sheets) [] said = absurd said

-- one at its place
pub said_there : (sheets : List Sheet) (all : List Said) (i : ℕ) (d : Said) → AreSaid sheets all → i < length all
    → (sheet : Sheet) × (slice_get sheets i ≡ Some sheet) × IsSaid sheet (get_or all i d)
said_there (s ∷ sheets) (x ∷ all) zero d said below = (s, refl, said.0)
said_there (s ∷ sheets) (x ∷ all) (suc i) d said below = said_there sheets all i d said.1 (omega (arith, below))
said_there [] [] i d said below = absurd (omega (arith, below))
said_there [] (x ∷ all) i d said below = absurd said
said_there (s ∷ sheets) [] i d said below = absurd said

-- the first of those that are left
pub first_left : (sheets : List Sheet) (said : Said) (all : List Said) → AreSaid sheets (said ∷ all)
    → (sheet : Sheet) × (rest : List Sheet) × (sheets ≡ sheet ∷ rest) × IsSaid sheet said × AreSaid rest all
first_left (s ∷ sheets) said all are = (s, sheets, refl, are.0, are.1)
first_left [] said all are = absurd are

pub none_left : (sheets : List Sheet) (all : List Said) → AreSaid sheets all → length all ≡ 0 → sheets ≡ []
none_left [] all are none = refl
none_left (s ∷ sheets) (x ∷ all) are none = absurd (omega (arith, none))
none_left (s ∷ sheets) [] are none = absurd are

-- one more at the end
pub said_more : (sheets : List Sheet) (all : List Said) (sheet : Sheet) (said : Said) → AreSaid sheets all → IsSaid sheet said → AreSaid (sheets ++ sheet ∷ []) (all ++ said ∷ [])
said_more [] [] sheet said before is = (is, tt)
said_more (s ∷ sheets) (x ∷ all) sheet said before is = (before.0, said_more sheets all sheet said before.1 is)
said_more [] (x ∷ all) sheet said before is = absurd before
said_more (s ∷ sheets) [] sheet said before is = absurd before

-- ---- sheets that agree

-- the first of these and one more agree with one
pub agree_more : (sheets : List Sheet) (i : ℕ) (sheet one : Sheet) → slice_get sheets i ≡ Some sheet → EachAgrees (take i sheets) one → Agree sheet one
    → EachAgrees (take (suc i) sheets) one
agree_more (s ∷ sheets) zero sheet one is before agree = (subst (λ o. Agree o one) (sym (same is)) agree, tt)
  where
    same : Some s ≡ Some sheet → s ≡ sheet
    same e = grind (arith, e)
agree_more (s ∷ sheets) (suc i) sheet one is before agree = (before.0, agree_more sheets i sheet one is before.1 agree)
agree_more [] i sheet one is before agree = let clash : None ≡ Some sheet = is in cc

-- one that agrees with each of those before it is one more that agrees
with_last : (s : Sheet) (sheets : List Sheet) (one : Sheet) → AgreesWithEach s sheets → Agree s one → AgreesWithEach s (sheets ++ one ∷ [])
with_last s [] one before agree = (agree, tt)
with_last s (x ∷ sheets) one before agree = (before.0, with_last s sheets one before.1 agree)

pub all_agree_more : (sheets : List Sheet) (one : Sheet) → AllAgree sheets → EachAgrees sheets one → AllAgree (sheets ++ one ∷ [])
all_agree_more [] one all each = (tt, tt)
all_agree_more (s ∷ sheets) one all each = (with_last s sheets one all.0 each.0, all_agree_more sheets one all.1 each.1)

-- ---- texts that are read

-- what a text means that is a sheet
pub meant : {A B : Type 0} (known : Result A B) (P : A → Type 0) → IsOkAnd known P → (value : A) × (known ≡ Ok value) × P value
meant (Ok value) P is = (value, refl, is)
meant (Err fault) P is = absurd is

-- the text at a place
pub read_there : (texts : List (Vec ℕ Global)) (i : ℕ) (text : Vec ℕ Global) → i < length texts → text ≡ get_or texts i text
    → slice_get (map (λ t. t.items) texts) i ≡ Some text.items
read_there (t ∷ texts) zero text below is = ap (λ t. Some t.items) (sym is)
read_there (t ∷ texts) (suc i) text below is = read_there texts i text (omega (arith, below)) is
read_there [] i text below is = absurd (omega (arith, below))

one_more_taken : {A : Type 0} (xs : List A) (i : ℕ) (x : A) → slice_get xs i ≡ Some x → take (suc i) xs ≡ take i xs ++ x ∷ []
one_more_taken (y ∷ xs) zero x is = ap (λ z. z ∷ []) (same is)
  where
    same : Some y ≡ Some x → y ≡ x
    same e = grind (arith, e)
one_more_taken (y ∷ xs) (suc i) x is = ap (λ l. y ∷ l) (one_more_taken xs i x is)
one_more_taken [] i x is = let clash : None ≡ Some x = is in cc

mapped_more : {A B : Type 0} (f : A → B) (xs : List A) (x : A) → map f (xs ++ x ∷ []) ≡ map f xs ++ f x ∷ []
mapped_more f [] x = refl
mapped_more f (y ∷ xs) x = ap (λ l. f y ∷ l) (mapped_more f xs x)

-- one more that is a sheet, with which those before it agree
pub read_more : (texts : List (List ℕ)) (i : ℕ) (sheets : List Sheet) (text : List ℕ) (sheet : Sheet) → slice_get texts i ≡ Some text → AreRead (take i texts) sheets
    → sheet_of text ≡ Ok sheet → EachAgrees sheets sheet → AreRead (take (suc i) texts) (sheets ++ sheet ∷ [])
read_more texts i sheets text sheet is_at read is_sheet agree = record {
  are = ap (map sheet_of) (one_more_taken texts i text is_at) ∙ mapped_more sheet_of (take i texts) text
      ∙ (λ k. read.are k ++ is_sheet k ∷ []) ∙ sym (mapped_more (λ s. Ok s) sheets sheet);
  agree = all_agree_more sheets sheet read.agree agree;
}

-- as many texts as sheets
pub as_many_read : (texts : List (List ℕ)) (sheets : List Sheet) → AreRead texts sheets → length texts ≡ length sheets
as_many_read texts sheets read = as_long texts sheets read.are
  where
    as_long : (texts : List (List ℕ)) (sheets : List Sheet) → map sheet_of texts ≡ map (λ s. Ok s) sheets → length texts ≡ length sheets
    as_long texts sheets same = sym (length-map texts sheet_of) ∙ ap length same ∙ length-map sheets (λ s. Ok s)

-- not none, where there is a text
pub some_read : (texts : List (Vec ℕ Global)) (sheets : List Sheet) → AreRead (map (λ t. t.items) texts) sheets → 0 < length texts → 0 < length sheets
some_read texts sheets read some = omega (arith, as_many_read (map (λ t. t.items) texts) sheets read, length-map texts (λ t. t.items), some)

-- ---- the deck of all

-- a deck that does what the sheets of these texts say together
pub deck_of_all : (texts : List (List ℕ)) (sheets : List Sheet) (all : List Said) (said : Said) (deck : Deck) → AreRead texts sheets → AreSaid sheets all → 0 < length sheets
    → ((first : Sheet) (rest : List Sheet) → AreSaid (first ∷ rest) all → IsSaid (fold together first rest) said)
    → ((sheet : Sheet) → IsSaid sheet said → IsDeckOf sheet deck) → IsDeckOfAll texts deck
deck_of_all texts (first ∷ rest) all said deck read are some taken does =
    record { first = first; rest = rest; read = read; does = does (fold together first rest) (taken first rest are) }
deck_of_all texts [] all said deck read are some taken does = absurd (omega (arith, some))
