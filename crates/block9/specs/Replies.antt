-- Which replies a command takes, where a sheet names some for it.
use Rattle.std.specs.Prelude.{ℕ, ◌≡◌, ◌+◌, ◌*◌, ◌==◌, ◌&&◌, ◌||◌, ⊤, Bool, true, if◌then◌else◌, Option, Some, None, option_map, List, [], Contains, length}
use Rattle.std.specs.BTreeMap.{BTreeMap, get}
use Rattle.std.specs.List.{list_any}
use Rattle.std.specs.Ordering.{nat_cmp}
use Rattle.block9.specs.declared.block.Block.{Block}
use Rattle.block9.specs.declared.command.Command.{Command}
use Rattle.block9.specs.declared.command.Command.TheVariants.{Unlisted}
use Rattle.block9.specs.declared.replies.ReplyForm.{ReplyForm}
use Rattle.block9.specs.Block.{first_datum, head_of}
use Rattle.block9.specs.Command.{command_of, fits, is_nak}
use Rattle.tc25.specs.declared.rate.Rate.{Rate}
use Rattle.smallvec.specs.SmallVec.{SmallVec}

-- a number of data bytes is as a form has it: a form may leave it open
abbrev pub is_as_long : Option ℕ → ℕ → Bool
is_as_long None long = true
is_as_long (Some count) long = long == count

-- a reply is of a form
abbrev pub has_form : ReplyForm → Block → Bool
has_form form reply = reply.group == form.group && reply.code == form.code && is_as_long form.count (length reply.bytes.items)

-- a reply is of one of these forms
abbrev pub has_some_form : List ReplyForm → Block → Bool
has_some_form forms reply = list_any (λ form. has_form form reply) forms

-- the forms of reply that are named for commands, if some are: by the first two bytes of the command's block as one number, or, for a
-- selector of CURRENT TIME SENSE, by the first three
abbrev pub Named : Type 0
Named = Option (BTreeMap ℕ (SmallVec ReplyForm))

-- those that are named for these bytes
abbrev pub forms_at : Named → ℕ → Option (List ReplyForm)
forms_at None bytes = None
forms_at (Some table) bytes = option_map (λ forms. forms.items) (get nat_cmp table bytes)

-- the first two bytes of CURRENT TIME SENSE, whose data byte selects a time
abbrev pub time_sense : ℕ
time_sense = 0x61_0C

-- these two bytes and a selector as one number: 0x610C03 for 61 0C 03
abbrev pub time_sense_with : ℕ → ℕ
time_sense_with selector = 256 * time_sense + selector

-- those that are named for the command of a block: for CURRENT TIME SENSE those of its selector, if that has some of its own
abbrev pub forms_for : Named → Block → Option (List ReplyForm)
forms_for named b = if head_of b == time_sense then own_or (forms_at named (time_sense_with (first_datum b))) else forms_at named (head_of b)
  where
    own_or : Option (List ReplyForm) → Option (List ReplyForm)
    own_or None = forms_at named (head_of b)
    own_or (Some forms) = Some forms

-- a reply of a command's own: a NAK, and for a listed command what the tables say
abbrev pub is_own : Command → Block → Bool
is_own (Unlisted head) reply = is_nak reply
is_own c reply = fits c reply

-- what else a command takes than its own replies: those that are named for it, or where none are, whatever fits it
abbrev pub takes_besides : Option (List ReplyForm) → Command → Block → Bool
takes_besides None c reply = fits c reply
takes_besides (Some forms) c reply = has_some_form forms reply

-- a command with this block takes a reply
abbrev pub takes : Named → Block → Command → Block → Bool
takes named b c reply = is_own c reply || takes_besides (forms_for named b) c reply

-- each command takes no more replies where the first are named than where the second are
abbrev pub TakesNoMore : Rate → Named → Named → Type 0
TakesNoMore rate less more = (b : Block) (c : Command) (reply : Block) → command_of rate b ≡ Some c
    → takes less b c reply ≡ true → takes more b c reply ≡ true

-- ---- in a sheet's own words

-- each form of the first list is in the second
abbrev pub AreAmong : List ReplyForm → List ReplyForm → Type 0
AreAmong fewer more = (form : ReplyForm) → Contains fewer form → Contains more form

-- the forms that are named, and none where nothing is
abbrev pub named_forms : Option (List ReplyForm) → List ReplyForm
named_forms None = []
named_forms (Some forms) = forms

-- of what is named for a command the second allows no less than the first: each form of the first is in the second, or nothing is named for a
-- command that is not listed, which then takes any reply
abbrev pub NamesNoMore : Command → Option (List ReplyForm) → Option (List ReplyForm) → Type 0
NamesNoMore (Unlisted head) less None = ⊤
NamesNoMore (Unlisted head) None (Some more) = ⊥
NamesNoMore (Unlisted head) (Some fewer) (Some more) = AreAmong fewer more
NamesNoMore c less more = AreAmong (named_forms less) (named_forms more)
