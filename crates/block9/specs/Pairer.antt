-- A `Pairer` as its callers see it, and what a call of `feed` does to it.
use Rattle.std.specs.Prelude.{◌≡◌, ℕ, ◌%◌, Option, Some, None, List, [], ◌∷◌, ◌++◌, length}
use Rattle.std.specs.List.{sum}
use Rattle.capture9.specs.declared.line_byte.LineByte.{LineByte}
use Rattle.capture9.specs.declared.line_byte.Wire.TheVariants.{Controller, Deck}
use Rattle.block9.specs.declared.exchange.Exchange.{Exchange}
use Rattle.block9.specs.declared.open.Open.{Open}
use Rattle.block9.specs.declared.reason.Reason.{Reason}
use Rattle.block9.specs.declared.block.Block.{Block}
use Rattle.block9.specs.declared.command.Command.{Command}
use Rattle.block9.specs.Exchange.{Does, IsCommand, IsInTime, IsKept, Outcome, completed_by, tail_after}
use Rattle.block9.specs.Line.{IsBegun, block_len, bytes_of}
use Rattle.block9.specs.Reason.{IsReason}
use Rattle.block9.specs.declared.line_rules.LineRules.{LineRules}

-- a `Pairer` as its callers see it
pub record Paired : Type 0 where
  -- what its records are judged by
  pub rules : LineRules
  -- the records since the last complete exchange, without the one that broke a rule
  pub tail : List LineByte
  -- the time of the last record that it was fed
  pub last_time : Option ℕ
  -- the reason, once a rule was broken
  pub reason : Option Reason
  -- the exchange that the last record completed
  pub exchange : Option Exchange

-- a record that keeps the rules was taken
pub record Takes (old : Paired) (r : LineByte) (outcome : Outcome) (new : Paired) : Type 0 where
  pub rules : new.rules ≡ old.rules
  pub does : Does old.rules old.tail r outcome
  pub tail : new.tail ≡ tail_after old.tail r outcome
  pub last_time : new.last_time ≡ Some r.time_us
  pub reason : new.reason ≡ None
  pub exchange : new.exchange ≡ completed_by outcome

-- a record that breaks a rule was refused: the records with it are not kept, and this is the reason
pub record Refuses (old : Paired) (r : LineByte) (reason : Reason) (new : Paired) : Type 0 where
  pub rules : new.rules ≡ old.rules
  pub is_reason : IsReason old.rules old.tail r reason
  pub not_kept : ¬ IsKept old.rules (old.tail ++ r ∷ [])
  pub tail : new.tail ≡ old.tail
  pub last_time : new.last_time ≡ Some r.time_us
  pub known : new.reason ≡ Some reason
  pub none_complete : new.exchange ≡ None

-- a tail begins with a complete command, and this is what it means
pub record BeginsWith (rules : LineRules) (tail : List LineByte) (c : Command) : Type 0 where
  pub records : List LineByte
  pub reply : List LineByte
  pub split : tail ≡ records ++ reply
  pub block : Block
  pub command : IsCommand rules records block c

-- what is open after a tail: a line for each kind of tail
pub data IsOpenAfter (rules : LineRules) (tail : List LineByte) (o : Open) : Type 0 where
  nothing : tail ≡ [] → o ≡ record { command = None; asked = 0; answered = 0; wanted = 0; sum = 0 } → IsOpenAfter rules tail o
  in_command : IsBegun Controller tail
      → o ≡ record { command = None; asked = length tail; answered = 0; wanted = block_len tail; sum = sum (bytes_of tail) % 256 } → IsOpenAfter rules tail o
  after_command : (b : Block) (c : Command) → IsCommand rules tail b c
      → o ≡ record { command = Some c; asked = length tail; answered = 0; wanted = 0; sum = 0 } → IsOpenAfter rules tail o
  in_reply : (command reply : List LineByte) (b : Block) (c : Command) → tail ≡ command ++ reply → IsCommand rules command b c → IsBegun Deck reply
      → IsInTime rules command reply
      → o ≡ record { command = Some c; asked = length command; answered = length reply; wanted = block_len reply; sum = sum (bytes_of reply) % 256 }
      → IsOpenAfter rules tail o
