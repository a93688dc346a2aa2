-- What an error writes is printable ASCII.
use Rattle.sheet9.proofs.Words.{[], agree_below_at, arith, cond_both, decimal, digit_glyph, digits_onto, encode_utf8, error_text, escaped, false, flat_map, is_printable}
use Rattle.sheet9.proofs.Words.{List, nat_lt, nat_tests, refl, suc, true, words_of, zero, ℕ, ◌%◌, ◌/◌, ◌==◌, ◌∷◌, ◌≡◌}
use lib.Utf8.{encode}
use Rattle.std.proofs.lemmas.List.Folds.{list_all-append}
use Rattle.std.specs.Char.{digit_char}
use Rattle.std.specs.Char.Escape.{backslash, escape_ascii, hex_digit_at}
use Rattle.std.specs.Fmt.{digits}
use Rattle.std.specs.List.{list_all}
use Rattle.sheet9.specs.declared.refusal.EntryFault.TheVariants.{the_data as EntryFault}
use Rattle.sheet9.specs.declared.refusal.ItemFault.TheVariants.{the_data as ItemFault}
use Rattle.sheet9.specs.declared.refusal.Refusal.TheVariants.{the_data as Refusal}
use Rattle.sheet9.specs.declared.refusal.SheetError.TheVariants.{the_data as SheetError}
use Rattle.sheet9.specs.declared.refusal.TableName.TheVariants.{the_data as TableName}
use Rattle.sheet9.specs.Text.{name_of, words_of_item}

abbrev pub Prints : List ℕ → Type 0
Prints text = list_all is_printable text ≡ true

hex_prints : (n : ℕ) → Prints (encode_utf8 (digit_char (n % 16)))
unfolding encode
hex_prints n = agree_below_at (λ d. list_all is_printable (encode_utf8 (digit_char d))) (λ _. true) 16 (n % 16) refl (omega arith)

escaped_prints : (b : ℕ) → Prints (escaped b)
unfolding encode
escaped_prints b = cond_both (nat_lt b 128) 0 0 (λ (_ : ℕ). Prints (escaped b))
    (λ h. agree_below_at (λ d. list_all is_printable (escaped d)) (λ _. true) 128 b refl (grind (arith, nat_tests)))
    (λ h.
    let past_ascii : escape_ascii b ≡ backslash ∷ 120 ∷ hex_digit_at 0x10 b ∷ hex_digit_at 1 b ∷ [] = grind (arith, nat_tests) in
    rw past_ascii (simp (list_all-append, hex_prints)))

flat_prints : (bs : List ℕ) → Prints (flat_map escaped bs)
flat_prints [] = refl
flat_prints (b ∷ bs) = simp (list_all-append, escaped_prints b, flat_prints bs)

digits_print : (k n : ℕ) (acc : List ℕ) → Prints acc → Prints (digits_onto k 10 false n acc)
digits_print zero n acc h = h
digits_print (suc k) n acc h =
    let digit = agree_below_at (λ d. is_printable (digit_glyph false d)) (λ _. true) 10 (n % 10) refl (omega arith) in
    let more : Prints (digit_glyph false (n % 10) ∷ acc) = rw digit h in
    cond_both (n / 10 == 0) _ _ Prints (λ _. more) (λ _. digits_print k (n / 10) _ more)

decimal_prints : (n : ℕ) → Prints (decimal n)
unfolding digits
decimal_prints n = digits_print 64 n [] refl

words_print : (fault : EntryFault) → Prints (words_of fault)
words_print EntryFault.Reply = refl
words_print _ = refl

item_prints : (fault : ItemFault) → Prints (words_of_item fault)
item_prints ItemFault.NoMode = refl
item_prints _ = refl

name_prints : (table : TableName) → Prints (name_of table)
name_prints TableName.Names = refl
name_prints _ = refl

pub error_prints : (e : SheetError) → Prints (error_text e)
error_prints (SheetError.Refused (Refusal.NotToml line)) = simp (list_all-append, decimal_prints)
error_prints (SheetError.Refused (Refusal.UnknownKey key)) = simp (list_all-append, flat_prints)
error_prints (SheetError.Refused (Refusal.NoTable table)) = simp (list_all-append, name_prints)
error_prints (SheetError.Refused (Refusal.Entry table key fault)) = simp (list_all-append, flat_prints, name_prints, words_print)
error_prints (SheetError.Refused (Refusal.Item table key item fault)) = simp (list_all-append, flat_prints, name_prints, item_prints)
error_prints SheetError.OutOfMemory = refl
