-- What the table [forgets] says: what a deck forgets at some commands.
use Rattle.std.specs.Prelude.{ℕ, ◌==◌, ◌&&◌, if◌then◌else◌, List, [], ◌∷◌, Option, Some, None, codes, find, ok_or, option_map, option_and_then}
use Rattle.std.specs.Str.{bytes_eq}
use Rattle.toml.specs.Data.{as_str}
use Rattle.block9.specs.Command.{group_of, is_listed_head}
use Rattle.deck9.specs.declared.deck.Forgotten.{Forgotten}
use Rattle.deck9.specs.declared.deck.Forgotten.TheVariants.{Nothing, Motion, Registers, Tape, Everything}
use Rattle.sheet9.specs.declared.refusal.EntryFault.{EntryFault}
use Rattle.sheet9.specs.declared.refusal.EntryFault.TheVariants.{Sense, NotForgotten}
use Rattle.sheet9.specs.declared.refusal.TableName.TheVariants.{Forgets}
use Rattle.sheet9.specs.Entries.{CommandTable}
use Rattle.sheet9.specs.Refusal.{Entry}

-- the words for what is forgotten
abbrev pub forgotten_words : List (List ℕ × Forgotten)
forgotten_words =
    (codes "nothing", Nothing) ∷ (codes "motion", Motion) ∷ (codes "registers", Registers) ∷ (codes "tape", Tape)
    ∷ (codes "everything", Everything) ∷ []

-- what a word says is forgotten
abbrev pub forgotten_named : List ℕ → Option Forgotten
forgotten_named word = option_map (λ w. w.1) (find (λ w. bytes_eq word w.0) forgotten_words)

-- a listed command of group 6 only asks, and changes nothing
abbrev pub unfit_to_forget : ℕ → Option EntryFault
unfit_to_forget head = if group_of head == 6 && is_listed_head head then Some Sense else None

-- the table
abbrev pub forgets_table : CommandTable Forgotten
forgets_table = record {
  name = Forgets;
  unfit = unfit_to_forget;
  value_of = λ key value. ok_or (option_and_then forgotten_named (as_str value)) (Entry Forgets key NotForgotten);
}
