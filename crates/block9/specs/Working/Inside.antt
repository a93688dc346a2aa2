-- What is inside a `Pairer`, which callers do not see, and what a record does to it.
use Rattle.block9.specs.declared.line_rules.LineRules.{LineRules}
use Rattle.std.specs.Prelude.{ℕ, ◌≡◌, ◌<◌, ◌+◌, ◌-◌, ◌%◌, ◌==◌, ◌⊎◌, if◌then◌else◌, length, ⊤, Bool, true, false, Option, Some, None, List, [], ◌∷◌, take, drop}
use Rattle.std.specs.List.{sum}
use Rattle.capture9.specs.declared.line_byte.LineByte.{LineByte}
use Rattle.capture9.specs.declared.line_byte.Wire.{Wire}
use Rattle.capture9.specs.declared.line_byte.Wire.TheVariants.{Controller, Deck}
use Rattle.block9.specs.declared.open_block.OpenBlock.{OpenBlock}
use Rattle.block9.specs.declared.block.Block.{Block}
use Rattle.block9.specs.declared.command.Command.{Command}
use Rattle.block9.specs.declared.exchange.Exchange.{Exchange}
use Rattle.block9.specs.declared.place.Place.{Place}
use Rattle.block9.specs.declared.place.Place.TheVariants.{Idle, InCommand, AfterCommand, InReply}
use Rattle.block9.specs.declared.reason.Reason.{Reason}
use Rattle.block9.specs.declared.rules.Turned.{Turned}
use Rattle.block9.specs.declared.rules.Turned.TheVariants.{Open, Last}
use Rattle.block9.specs.Exchange.{IsCommand, Outcome}
use Rattle.block9.specs.Exchange.Outcome.{answers_late, asks, completes, leaves_open}
use Rattle.block9.specs.Line.{IsBegun, block_len, bytes_of, first_time, last_time}
use Rattle.block9.specs.Pairer.{BeginsWith}
use Rattle.block9.specs.Reason.{IsAnswered}
use Rattle.block9.specs.Working.Body.{block_of}
use Rattle.block9.specs.Working.Table.{early_fault, ends_block, is_late, open_at, place_of}

-- the records are a complete command with this meaning
abbrev pub IsWholeOf : LineRules → List LineByte → Command → Type 0
IsWholeOf rules records c = (b : Block) × IsCommand rules records b c

-- the records are a tail, and what is kept beside them is the complete command with which they begin, if they do
abbrev pub IsTailWith : LineRules → List LineByte → Option Command → Type 0
IsTailWith rules records None = (records ≡ []) ⊎ IsBegun Controller records
IsTailWith rules records (Some c) = IsWholeOf rules records c ⊎ ((reply : List LineByte) × IsAnswered rules records c reply)

-- the command of an exchange is complete where its reply is to come
abbrev pub asked_on : Wire → Command → Option Command
asked_on Controller c = None
asked_on Deck c = Some c

-- a block on a wire that is not begun
abbrev pub to_come : Wire → OpenBlock
to_come wire = record { wire = wire; left = 0; sum = 0 }

-- a block with one byte more, which is not its last
abbrev pub grown : OpenBlock → ℕ → OpenBlock
grown b byte =
    if b.left == 0 then record { wire = b.wire; left = byte % 16 + 2; sum = byte }
    else record { wire = b.wire; left = b.left - 1; sum = (b.sum + byte) % 256 }

-- a begun block with one byte more, and none where that is its last
abbrev pub next_of : OpenBlock → ℕ → Option OpenBlock
next_of b byte = if b.left == 1 then None else Some (grown b byte)

-- where a tail stands, by the block at its end
abbrev pub place_on : Wire → Bool → Place
place_on Controller true = Idle
place_on Controller false = InCommand
place_on Deck true = AfterCommand
place_on Deck false = InReply

abbrev pub place_at : OpenBlock → Place
place_at b = place_on b.wire (b.left == 0)

-- what is kept of the block that is open at the end of a tail
pub record Stands (tail : List LineByte) (b : OpenBlock) : Type 0 where
  pub place : place_at b ≡ place_of tail
  pub left : length (open_at (place_of tail) tail) + b.left ≡ block_len (open_at (place_of tail) tail)
  pub sum_so_far : 0 < b.left → b.sum ≡ sum (bytes_of (open_at (place_of tail) tail)) % 256

-- the time of the last record that was fed: the tail's last one, but for one that ended an exchange or broke a rule
abbrev pub last_fed : List LineByte → Option Reason → Option ℕ → Option ℕ
last_fed [] reason passed = passed
last_fed (r ∷ records) None passed = Some (last_time (r ∷ records))
last_fed (r ∷ records) (Some reason) passed = passed

-- the most records since the last complete exchange: a command of 18, and all of its reply but the last
abbrev pub most_open : ℕ
most_open = 35

-- the exchange that the last record completed: nothing is open since, and no record broke a rule
abbrev pub completed : List LineByte → Option Reason → Option ℕ → Exchange → Option Exchange
completed [] None None e = None
completed [] None (Some passed) e = Some e
completed [] (Some reason) passed e = None
completed (r ∷ records) reason passed e = None

-- what is inside a `Pairer` fits together: its tail, the block that is open at its end, and the exchange that is under way
pub record IsInside (rules : LineRules) (records : List LineByte) (b : OpenBlock) (e : Exchange) : Type 0 where
  pub held : IsTailWith rules records (asked_on b.wire e.command)
  pub stands : Stands records b
  pub asked : b.wire ≡ Deck → (begins : BeginsWith rules records e.command) × (begins.block ≡ e.block)

-- the exchange that a record completes is the one that was under way
abbrev pub IsOf : Exchange → Outcome → Type 0
IsOf e leaves_open = ⊤
IsOf e answers_late = ⊤
IsOf e asks = ⊤
IsOf e (completes f) = f ≡ e

-- a record that breaks no rule before its block is complete, and whether it is the last one of its block
abbrev pub IsTurn : LineRules → List LineByte → LineByte → Bool → Type 0
IsTurn rules tail r ends = (early_fault rules.reply_limit (place_of tail) tail r ≡ None) × (ends ≡ ends_block (open_at (place_of tail) tail))

-- what such a record makes of the block that is open: it ends it, or leaves it open; and whether it begins a late reply
abbrev pub IsTurned : List LineByte → OpenBlock → LineByte → Turned → Type 0
IsTurned tail b r (Open block late) = (Some block ≡ next_of b r.byte) × (late ≡ is_late (place_of tail) tail r)
IsTurned tail b r Last = None ≡ next_of b r.byte

-- an exchange is the one that a tail inside a reply and one more record are, as it is read, with this command and block
abbrev pub closed_of : List LineByte → Command → Block → Exchange
closed_of tail c b = record {
  command = c;
  block = b;
  reply = block_of (bytes_of (open_at (place_of tail) tail));
  time_us = first_time tail;
  delay_us = first_time (drop (block_len tail) tail) - last_time (take (block_len tail) tail);
}

abbrev pub Closes : List LineByte → Exchange → Exchange → Type 0
Closes tail old new = new ≡ closed_of tail old.command old.block
