use Rattle.block9.proofs.CutLemmas.{cut_taking_more}
use Rattle.block9.proofs.Words.{[], ap, arith, Block, Command, false≢true, None, refl, sym, ◌∙◌, ◌≡◌, ℕ, Bool, true, false}
use Rattle.block9.proofs.laws.named_replies.Goals as goal
use Rattle.block9.specs.declared.replies.ReplyForm.{ReplyForm}
use Rattle.block9.specs.Block.{head_of}
use Rattle.block9.specs.Replies.{AreAmong, NamesNoMore, forms_at, forms_for, has_form, has_some_form, is_own, named_forms, takes, takes_besides, time_sense}
use Rattle.std.proofs.lemmas.List.Folds.{Any-from_list_any, list_any_at}
use Rattle.std.proofs.Common.{subst}
use Rattle.std.specs.Prelude.{◌==◌, ◌||◌, if◌then◌else◌, List, Option, Some}
unfoldable use Rattle.block9.specs.Command.{fits}

or_same : (b : Bool) → (b || b) ≡ b
or_same true = refl
or_same false = refl

none_either : (b : Bool) → (if b then forms_at None 0 else forms_at None 0) ≡ None
none_either true = refl
none_either false = refl

-- where nothing is named, nothing is named for any command
none_named : (block : Block) → forms_for None block ≡ None
none_named block = none_either (head_of block == time_sense)

fitting : (c : Command) (reply : Block) → (is_own c reply || takes_besides None c reply) ≡ fits c reply
unfolding fits
fitting (Command.Unlisted other) reply = grind arith
fitting c reply = or_same (fits c reply)

taken_alone : (block : Block) (c : Command) (reply : Block) → takes None block c reply ≡ fits c reply
taken_alone block c reply = subst (λ forms. (is_own c reply || takes_besides forms c reply) ≡ fits c reply) (sym (none_named block)) (fitting c reply)

-- a reply of one of some forms is of one of more
any_among : (reply : Block) (fewer more : List ReplyForm) → AreAmong fewer more → has_some_form fewer reply ≡ true → has_some_form more reply ≡ true
any_among reply fewer more among has =
    let found = Any-from_list_any (λ form. has_form form reply) fewer has in
    let there = among found.1 (found.0, found.2, found.3) in
    list_any_at (λ form. has_form form reply) more there.0 found.1 there.1 (ap (λ form. has_form form reply) there.2 ∙ found.4)

-- a command that is not listed, and one that is: a reply that is its own needs no name
unlisted_more : (head : ℕ) (reply : Block) (own : Bool) (less more : Option (List ReplyForm)) → NamesNoMore (Command.Unlisted head) less more
    → (own || takes_besides less (Command.Unlisted head) reply) ≡ true → (own || takes_besides more (Command.Unlisted head) reply) ≡ true
unfolding fits
unlisted_more head reply true less more names taken = refl
unlisted_more head reply false less None names taken = grind arith
unlisted_more head reply false None (Some more) names taken = absurd names
unlisted_more head reply false (Some fewer) (Some more) names taken = any_among reply fewer more names taken

listed_more : (c : Command) (reply : Block) (own : Bool) (less more : Option (List ReplyForm)) → own ≡ fits c reply → AreAmong (named_forms less) (named_forms more)
    → (own || takes_besides less c reply) ≡ true → (own || takes_besides more c reply) ≡ true
listed_more c reply true less more same among taken = refl
listed_more c reply false None more same among taken = absurd (false≢true (same ∙ taken))
listed_more c reply false (Some fewer) None same among taken = absurd (false≢true (any_among reply fewer [] among taken))
listed_more c reply false (Some fewer) (Some more) same among taken = any_among reply fewer more among taken

names_more : (c : Command) (block reply : Block) (less more : Option (List ReplyForm)) → NamesNoMore c less more
    → (is_own c reply || takes_besides less c reply) ≡ true → (is_own c reply || takes_besides more c reply) ≡ true
names_more (Command.Unlisted head) block reply less more names taken = unlisted_more head reply (is_own (Command.Unlisted head) reply) less more names taken
names_more c block reply less more names taken = listed_more c reply (fits c reply) less more refl names taken

pub returns-clause-none : goal.returns-clause-none
returns-clause-none c = taken_alone

pub returns-clause-named : goal.returns-clause-named
returns-clause-named c = λ rate less more names block command reply meant taken.
    names_more command block reply (forms_for less block) (forms_for more block) (names block command meant) taken

pub returns-clause-more : goal.returns-clause-more
returns-clause-more c = λ rules more records es t takes. cut_taking_more rules more takes records es t
