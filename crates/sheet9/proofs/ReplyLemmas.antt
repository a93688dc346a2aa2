-- A list that is not empty has the forms, or the modes, of its items.
use Rattle.sheet9.proofs.Words.{[], arith, items_view, length, List, refl, Some, ℕ, ◌<◌, ◌∷◌, ◌≡◌}
use Rattle.toml.specs.declared.value.Value.TheVariants.{the_data as Value}
use Rattle.deck9.specs.ModeSet.{modes}
use Rattle.sheet9.specs.declared.refusal.TableName.{TableName}
use Rattle.sheet9.specs.Modes.{modes_in, with_names}
use Rattle.sheet9.specs.Replies.{forms_in, with_forms}

pub forms_of_some : (key : List ℕ) (values : List Value) → 0 < length values
    → forms_in key (Some (items_view values)) ≡ with_forms key [] (items_view values)
forms_of_some key [] some = absurd (omega (arith, some))
forms_of_some key (value ∷ values) some = refl

pub modes_of_some : (table : TableName) (key : List ℕ) (values : List Value) → 0 < length values
    → modes_in table key (Some (items_view values)) ≡ with_names table key (modes 0) (items_view values)
modes_of_some table key [] some = absurd (omega (arith, some))
modes_of_some table key (value ∷ values) some = refl
