-- A deck that does what a sheet without a table says does what the profile says.
use Rattle.sheet9.proofs.Words.{[], ◌∷◌, arith, nat_tests, Exchange, index_of, IsDeckOf, List, Mode, modes, None, own_ways, refl, slice_index_or}
use Rattle.sheet9.proofs.Words.{Bool, false, if◌then◌else◌, nat_cmp, Option, Sheet, Some, Stop, true, ℕ, ◌∙◌, way_of, ◌↔◌, ◌≡◌}
use Rattle.std.specs.BTreeMap.{BTreeMap, get, is_at, values}
use Rattle.std.specs.Map.{lookup}
use Rattle.std.specs.Prelude.{map, option_map, ◌==◌, ◌||◌}
use Rattle.smallvec.specs.SmallVec.{SmallVec}
use Rattle.block9.specs.declared.block.Block.{Block}
use Rattle.block9.specs.declared.command.Command.{Command}
use Rattle.block9.specs.declared.command.Command.TheVariants.{Unlisted}
use Rattle.block9.specs.declared.replies.ReplyForm.{ReplyForm}
use Rattle.block9.specs.Command.{fits}
use Rattle.sheet9.specs.Sheet.{is_beside}
use Rattle.block9.specs.Block.{first_datum, head_of}
use Rattle.block9.specs.Replies.{forms_at, forms_for, is_own, takes, takes_besides, time_sense, time_sense_with}
use Rattle.deck9.specs.declared.deck.Deck.{Deck}
use Rattle.deck9.specs.declared.deck.Forgotten.{Forgotten}
use Rattle.deck9.specs.declared.profile.Profile.{Profile}
use Rattle.deck9.proofs.GoingLemmas.{goes_on_more, part_self}
use Rattle.deck9.proofs.LessLemmas.{no_more_ends}
use Rattle.deck9.specs.Deck.{forgotten_beside, unless_sensed}
use Rattle.deck9.specs.declared.going.Going.{Going}
use Rattle.deck9.specs.declared.state.Hands.TheVariants as Hands
use Rattle.deck9.specs.Going.{all_with, nothing_on, on_after, on_at_first}
use Rattle.deck9.specs.Laws.{GoesOnNoMore, IsPartOf}
use Rattle.deck9.specs.Run.{Ends}
use Rattle.deck9.specs.declared.state.State.{State}
use Rattle.deck9.specs.Effect.{Forgets}
use Rattle.deck9.specs.Shows.{sense_of}
use Rattle.deck9.specs.declared.deck.Forgotten.TheVariants.{Nothing}
use Rattle.deck9.specs.declared.sense.Sense.{Sense}
use Rattle.deck9.specs.declared.sense.Sense.TheVariants as sense
use Rattle.std.proofs.Common.{ap, subst, sym}

-- the sheet without a table
abbrev empty : Sheet
empty = record { forgets = []; goals = []; loses = []; names = []; ways = own_ways; replies = []; runs = [] }

own_way : (g : Mode) → slice_index_or own_ways (index_of g) (modes 0) ≡ way_of None g
own_way Stop = refl
own_way _ = refl

abbrev none : Option Forgotten
none = None

none_both : (b : Bool) → (if b then none else none) ≡ none
none_both true = refl
none_both false = refl

forgets_none : (deck : Deck) → IsDeckOf empty deck → (head : ℕ) → get nat_cmp deck.forgets head ≡ None
forgets_none deck of_sheet head = of_sheet.forgets head ∙ none_both (is_beside (λ head. None) head)

also_none : (deck : Deck) → IsDeckOf empty deck → (head : ℕ) → get nat_cmp deck.also_forgets head ≡ None
also_none deck of_sheet head = of_sheet.also_forgets head ∙ none_both (is_beside (λ head. None) head)

goals_none : (deck : Deck) → IsDeckOf empty deck → (head : ℕ) → get nat_cmp deck.goals head ≡ None
goals_none deck of_sheet head = of_sheet.goals head

-- nothing is forgotten beside a command
unless_nothing : (asked : Sense) → unless_sensed asked Nothing ≡ Nothing
unless_nothing sense.Nothing = refl
unless_nothing _ = refl

none_beside : (c : Command) (head : ℕ) → forgotten_beside None c head ≡ Nothing
none_beside c head = unless_nothing (sense_of c)

deck_beside : (deck : Deck) → IsDeckOf empty deck → (c : Command) (head : ℕ) → forgotten_beside (Some deck) c head ≡ Nothing
deck_beside deck of_sheet c head = rw (also_none deck of_sheet head) (unless_nothing (sense_of c))

-- ---- nothing goes on

-- a map that has nothing at any key has no values
no_values : {X : Type 0} (named : BTreeMap ℕ X) → ((head : ℕ) → get nat_cmp named head ≡ None) → values named ≡ []
no_values {X = X} named none = ap (map (λ e. e.1)) (no_entries named.entries none)
  where
    no_entries : (es : List (ℕ × X)) → ((head : ℕ) → lookup (is_at (nat_cmp head)) es ≡ None) → es ≡ []
    no_entries [] none = refl
    no_entries ((k, x) ∷ es) none = absurd (let never = none k in grind (arith, nat_tests, never))

-- so nothing goes on at first, and each exchange leaves what it does at a deck without a sheet
module _ (deck : Deck) (of_sheet : IsDeckOf empty deck) where
  nothing_at_first : on_at_first (Some deck) ≡ nothing_on
  nothing_at_first = ap (all_with nothing_on) (no_values deck.acts of_sheet.acts)

  same_after : (b : Bool) (e : Exchange) (g : Going) → on_after (Some deck) b e g ≡ on_after None b e g
  same_after true e g = rw (of_sheet.acts (head_of e.block)) refl
  same_after false e g = rw (of_sheet.acts (head_of e.block)) refl

  module _ (p : Profile) where
    after_more : (b : Bool) (e : Exchange) (g h : Going) → IsPartOf g h → IsPartOf (on_after None b e g) (on_after None b e h)
    after_more b e g h part = goes_on_more (record p { hands = Hands.None; deck = None }) b e g h part

    acts_less : GoesOnNoMore (Some deck) None
    acts_less = record {
      at_first = subst (λ g. IsPartOf g nothing_on) (sym nothing_at_first) (part_self nothing_on);
      after = λ b e g h part known. subst (λ x. IsPartOf x (on_after None b e h)) (sym (same_after b e g)) (after_more b e g h part);
    }

    acts_more : GoesOnNoMore None (Some deck)
    acts_more = record {
      at_first = subst (λ g. IsPartOf nothing_on g) (sym nothing_at_first) (part_self nothing_on);
      after = λ b e g h part known. subst (λ x. IsPartOf (on_after None b e g) x) (sym (same_after b e h)) (after_more b e g h part);
    }

pub same_ends : (deck : Deck) (p : Profile) (es : List Exchange) (t : State) → IsDeckOf empty deck
    → Ends (record p { deck = Some deck }) es t ↔ Ends (record p { deck = None }) es t
same_ends deck p es t of_sheet = (
  no_more_ends p (Some deck) None (record {
    effects = λ c s u is does. grind (arith, forgets_none deck of_sheet, goals_none deck of_sheet);
    beside = λ c head s u is forgets. subst (λ g. Forgets (record p { deck = None }) g s u) (sym (none_beside c head))
        (subst (λ g. Forgets (record p { deck = Some deck }) g s u) (deck_beside deck of_sheet c head) forgets);
  }) (λ g m on. rw (of_sheet.ways, own_way g) at on) (acts_less deck of_sheet p) es t,
  no_more_ends p None (Some deck) (record {
    effects = λ c s u is does. grind (arith, forgets_none deck of_sheet, goals_none deck of_sheet);
    beside = λ c head s u is forgets. subst (λ g. Forgets (record p { deck = Some deck }) g s u) (sym (deck_beside deck of_sheet c head))
        (subst (λ g. Forgets (record p { deck = None }) g s u) (none_beside c head) forgets);
  }) (λ g m on. rw (of_sheet.ways, own_way g) on) (acts_more deck of_sheet p) es t,
)

or_same : (b : Bool) → (b || b) ≡ b
or_same true = refl
or_same false = refl

pub none_mapped : {X Y : Type 0} (f : X → Y) (o : Option X) → option_map f o ≡ None → o ≡ None
none_mapped f None e = refl
none_mapped f (Some x) e = grind (arith, e)

-- a table that names nothing names nothing for a command, with a selector or without
none_for : (named : BTreeMap ℕ (SmallVec ReplyForm)) (block : Block) → ((bytes : ℕ) → get nat_cmp named bytes ≡ None) → forms_for (Some named) block ≡ None
none_for named block unnamed = rw (unnamed (time_sense_with (first_datum block)), unnamed (head_of block)) (either (head_of block == time_sense))
  where
    either : (b : Bool) → (if b then forms_at None 0 else forms_at None 0) ≡ None
    either true = refl
    either false = refl

-- a command for which nothing is named takes what fits it
fitting : (c : Command) (reply : Block) → (is_own c reply || takes_besides None c reply) ≡ fits c reply
unfolding fits
fitting (Unlisted unlisted) reply = grind arith
fitting c reply = or_same (fits c reply)

-- a command with a table of replies that names none takes what fits it
pub takes_fitting : (named : BTreeMap ℕ (SmallVec ReplyForm)) (block : Block) (c : Command) (reply : Block) → ((bytes : ℕ) → get nat_cmp named bytes ≡ None)
    → takes (Some named) block c reply ≡ fits c reply
takes_fitting named block c reply unnamed =
    subst (λ forms. (is_own c reply || takes_besides forms c reply) ≡ fits c reply) (sym (none_for named block unnamed)) (fitting c reply)
