-- The first of the reasons that hold, in a list and in the order in which they count.
use Rattle.block9.proofs.Words.{[], arith, ByteGap, CommandBeforeReply, CommandInsideReply, InvalidCommandTime, InvalidReplyTime, IsFirst, LateReply, List, NoReply, NoRun, order}
use Rattle.block9.proofs.Words.{Reason, ReplyInsideCommand, ReplyWithoutCommand, WrongGroup, WrongReply, WrongSum, ℕ, ◌<◌, ◌∷◌, ◌≡◌, ◌≤◌}

-- the first that holds does hold
pub first_holds : (holds : Reason → Type 0) (xs : List Reason) (x : Reason) → IsFirst holds xs x → holds x
first_holds holds [] x h = absurd h
first_holds holds (y ∷ ys) x h = let more = first_holds holds ys x in grind arith

-- one reason is the first
pub first_once : (holds : Reason → Type 0) (xs : List Reason) (x y : Reason) → IsFirst holds xs x → IsFirst holds xs y → x ≡ y
first_once holds [] x y h k = absurd h
first_once holds (z ∷ zs) x y h k = let more = first_once holds zs x y in grind arith

-- the place of a reason in the order
abbrev pub rank : Reason → ℕ
rank ReplyWithoutCommand = 0
rank ReplyInsideCommand = 1
rank CommandBeforeReply = 2
rank NoReply = 3
rank CommandInsideReply = 4
rank LateReply = 5
rank ByteGap = 6
rank WrongGroup = 7
rank WrongSum = 8
rank InvalidCommandTime = 9
rank WrongReply = 10
rank InvalidReplyTime = 11
rank NoRun = 12

pub rank_once : (x y : Reason) → rank x ≡ rank y → x ≡ y
rank_once x y e = grind arith

pub rank_low : (x : Reason) → rank x < 13
rank_low x = grind arith

-- a reason that holds, where no earlier one does, is the first in the order
pub in_order_first : (holds : Reason → Type 0) (x : Reason) → holds x → ((y : Reason) → holds y → rank x ≤ rank y) → IsFirst holds order x
in_order_first holds x h least = grind arith

-- ---- another line for the last reason: a crate that follows the deck puts its own there

-- a reason before the last one stays the first
pub first_before_last : (holds more : Reason → Type 0) (x : Reason) → ((y : Reason) → rank y < 12 → (holds y → more y) × (more y → holds y)) → rank x < 12
    → IsFirst holds order x → IsFirst more order x
first_before_last holds more x same low h = grind (arith, same)

-- where none before it holds, the last one is the first
pub last_is_first : (more : Reason → Type 0) → ((y : Reason) → rank y < 12 → more y → ⊥) → more NoRun → IsFirst more order NoRun
last_is_first more none h = grind (arith, none)
