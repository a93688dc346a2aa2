-- The table [loses]: which registers a deck may clear by itself after some commands.
use Rattle.std.specs.Prelude.{ℕ, List, [], ◌∷◌, Option, codes, find, ok_or, option_map, option_and_then}
use Rattle.std.specs.Str.{bytes_eq}
use Rattle.toml.specs.Data.{as_str}
use Rattle.deck9.specs.declared.going.Lost.{Lost}
use Rattle.deck9.specs.declared.going.Lost.TheVariants.{Points, AllRegisters}
use Rattle.sheet9.specs.declared.refusal.EntryFault.TheVariants.{NotLost}
use Rattle.sheet9.specs.declared.refusal.TableName.TheVariants.{Loses}
use Rattle.sheet9.specs.Acts.{unfit_to_begin}
use Rattle.sheet9.specs.Entries.{CommandTable}
use Rattle.sheet9.specs.Refusal.{Entry}

-- the words for what is lost
abbrev pub lost_words : List (List ℕ × Lost)
lost_words = (codes "points", Points) ∷ (codes "registers", AllRegisters) ∷ []

-- what a word says is lost
abbrev pub lost_named : List ℕ → Option Lost
lost_named word = option_map (λ w. w.1) (find (λ w. bytes_eq word w.0) lost_words)

-- the table
abbrev pub loses_table : CommandTable Lost
loses_table = record {
  name = Loses;
  unfit = unfit_to_begin;
  value_of = λ key value. ok_or (option_and_then lost_named (as_str value)) (Entry Loses key NotLost);
}
