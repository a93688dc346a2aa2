-- What stands in foreign text that was escaped.
use Rattle.std.proofs.Common.{arith, ℕ, List, [], ◌∷◌, ◌≢◌}
use Rattle.std.specs.List.{All}
use Rattle.std.proofs.lemmas.List.Elements.{All-append}
use Rattle.text9.specs.Markup.{escape_of, escaped, IsEscaped}

byte_begins_none : (b : ℕ) → All (λ x. x ≢ 60) (escape_of b)
byte_begins_none b = grind arith

byte_ends_none : (b : ℕ) → All (λ x. x ≢ 62) (escape_of b)
byte_ends_none b = grind arith

byte_quotes_none : (b : ℕ) → All (λ x. x ≢ 34) (escape_of b)
byte_quotes_none b = grind arith

pub none_marked : (text : List ℕ) → IsEscaped (escaped text)
none_marked [] = record { begins_none = grind arith; ends_none = grind arith; quotes_none = grind arith }
none_marked (b ∷ text) =
    let rest = none_marked text in record {
      begins_none = All-append (λ x. x ≢ 60) (escape_of b) (escaped text) (byte_begins_none b) rest.begins_none;
      ends_none = All-append (λ x. x ≢ 62) (escape_of b) (escaped text) (byte_ends_none b) rest.ends_none;
      quotes_none = All-append (λ x. x ≢ 34) (escape_of b) (escaped text) (byte_quotes_none b) rest.quotes_none;
    }
