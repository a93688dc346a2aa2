-- What the table [replies] says: which forms of reply some commands take, and some selectors of CURRENT TIME SENSE.
use Rattle.std.specs.Prelude.{ℕ, ◌==◌, if◌then◌else◌, List, [], ◌∷◌, ◌++◌, Option, Some, None, option_map, Result, Ok, Err}
use Rattle.toml.specs.Data.{Items, no_items, item, as_array, as_str}
use Rattle.capture9.specs.declared.line_byte.Wire.TheVariants.{Deck}
use Rattle.capture9.specs.Fields.{byte_in, hex_digit_of}
use Rattle.block9.specs.declared.replies.ReplyForm.{ReplyForm}
use Rattle.block9.specs.Line.{allows}
use Rattle.sheet9.specs.declared.refusal.EntryFault.TheVariants.{NoReplies, EmptyList}
use Rattle.sheet9.specs.declared.refusal.ItemFault.TheVariants.{NoReply, Command}
use Rattle.sheet9.specs.declared.refusal.TableName.TheVariants.{Replies}
use Rattle.sheet9.specs.Entries.{CommandTable}
use Rattle.sheet9.specs.Refusal.{Fault, Entry, Item, and_then}

-- a form of reply of these parts
abbrev pub form_from : Option ℕ → Option (Option ℕ) → Option ℕ → Option ReplyForm
form_from (Some group) (Some count) (Some code) = Some (record { group = group; count = count; code = code })
form_from _ _ _ = None

-- how many data a form has: a hexadecimal digit, or * (42) for any number
abbrev pub count_in : ℕ → Option (Option ℕ)
count_in c = if c == 42 then Some None else option_map Some (hex_digit_of c)

-- the form of reply that a text is: group, number of data and code, with one blank (32) before the code
abbrev pub form_named : List ℕ → Option ReplyForm
form_named (group ∷ count ∷ blank ∷ c ∷ d ∷ []) =
    if blank == 32 then form_from (hex_digit_of group) (count_in count) (byte_in (c ∷ d ∷ [])) else None
form_named _ = None

-- the form that an item of a list is, under a command's key; the item is given as a text, where it is one
abbrev pub form_in : List ℕ → Option (List ℕ) → Result ReplyForm Fault
form_in key None = Err (Entry Replies key NoReplies)
form_in key (Some text) = of_deck (form_named text)
  where
    of_deck : Option ReplyForm → Result ReplyForm Fault
    of_deck None = Err (Item Replies key text NoReply)
    of_deck (Some form) = if allows Deck form.group then Ok form else Err (Item Replies key text Command)

-- some forms, and those that the items of a list are; or what is wrong with the first item that is wrong
abbrev pub with_forms : List ℕ → List ReplyForm → Items → Result (List ReplyForm) Fault
with_forms key forms no_items = Ok forms
with_forms key forms (item value rest) = and_then (form_in key (as_str value)) (λ form. with_forms key (forms ++ form ∷ []) rest)

-- the forms that a list has, which is not empty
abbrev pub forms_in : List ℕ → Option Items → Result (List ReplyForm) Fault
forms_in key None = Err (Entry Replies key NoReplies)
forms_in key (Some no_items) = Err (Entry Replies key EmptyList)
forms_in key (Some items) = with_forms key [] items

-- the table
abbrev pub replies_table : CommandTable (List ReplyForm)
replies_table = record {
  name = Replies;
  unfit = λ head. None;
  value_of = λ key value. forms_in key (as_array value);
}
