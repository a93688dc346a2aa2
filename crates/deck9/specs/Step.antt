-- What an exchange does: a drift, then a step, and then what is forgotten besides.
use Rattle.std.specs.Prelude.{◌≡◌, Option, true, false, if◌then◌else◌}
use Rattle.block9.specs.declared.block.Block.{Block}
use Rattle.block9.specs.declared.command.Command.{Command}
use Rattle.block9.specs.declared.exchange.Exchange.{Exchange}
use Rattle.block9.specs.Block.{head_of}
use Rattle.block9.specs.Command.{is_nak}
use Rattle.deck9.specs.declared.deck.Deck.{Deck}
use Rattle.deck9.specs.declared.deck.Forgotten.{Forgotten}
use Rattle.deck9.specs.declared.deck.Forgotten.TheVariants as forgotten
use Rattle.deck9.specs.declared.profile.Profile.{Profile}
use Rattle.deck9.specs.declared.state.State.{State}
use Rattle.deck9.specs.Deck.{forgotten_beside}
use Rattle.deck9.specs.declared.going.Going.{Going}
use Rattle.deck9.specs.Drift.{Drift}
use Rattle.deck9.specs.Effect.{Does, effect_of, Forgets}
use Rattle.deck9.specs.Local.{may_ignore}
use Rattle.deck9.specs.Shows.{Shows}

-- what the deck does with a command that it gives this reply to
pub data DeckStep (p : Profile) (command : Command) (reply : Block) (s t : State) : Type 0 where
  -- not acknowledged, whatever the reasons: the state stays
  refused : is_nak reply ≡ true → t ≡ s → DeckStep p command reply s t
  -- the reply agrees with the state, and the command has its effect
  done : is_nak reply ≡ false → Shows p.rate s command reply → Does p (effect_of p.deck command) s t → DeckStep p command reply s t
  -- a deck in LOCAL ignores a listed transport or preset command
  ignored : is_nak reply ≡ false → Shows p.rate s command reply → may_ignore command ≡ true → s.local ≡ true → t ≡ s → DeckStep p command reply s t

-- the deck drifts, where this may be going on, and then does the step
abbrev pub Exchanges : Profile → Going → Command → Block → State → State → Type 0
Exchanges p on command reply s t = (d : State) × Drift p on s d × DeckStep p command reply d t

-- what the deck forgets with an exchange beside the effect of its command: nothing where that got a NAK
abbrev pub forgotten_with : Option Deck → Exchange → Forgotten
forgotten_with deck e = if is_nak e.reply then forgotten.Nothing else forgotten_beside deck e.command (head_of e.block)

-- what an exchange does: the deck drifts, does the step, and forgets what its sheet names besides
abbrev pub Goes : Profile → Going → Exchange → State → State → Type 0
Goes p on e s t = (u : State) × Exchanges p on e.command e.reply s u × Forgets p (forgotten_with p.deck e) u t

-- the new states are exactly those that a step leads to from one of the old
abbrev pub AreReached : (State → Type 0) → (State → State → Type 0) → (State → Type 0) → Type 0
AreReached old Leads new = ((t : State) → new t → (s : State) × old s × Leads s t) × ((s t : State) → old s → Leads s t → new t)
