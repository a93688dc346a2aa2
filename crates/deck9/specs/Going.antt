-- What a deck may do by itself between two exchanges, beside its drift: show some modes, and clear some registers. What may be going on
-- follows from the exchanges alone, and is the same for every state.
use Rattle.std.specs.Prelude.{ℕ, ◌==◌, Bool, true, false, if◌then◌else◌, Option, Some, None, List, [], ◌∷◌}
use Rattle.std.specs.BTreeMap.{get, values}
use Rattle.std.specs.Ordering.{nat_cmp}
use Rattle.block9.specs.declared.command.Command.{Command}
use Rattle.block9.specs.declared.exchange.Exchange.{Exchange}
use Rattle.block9.specs.Block.{head_of}
use Rattle.block9.specs.Command.{is_nak}
use Rattle.deck9.specs.declared.deck.Deck.{Deck}
use Rattle.deck9.specs.declared.effect.Effect.{Effect}
use Rattle.deck9.specs.declared.effect.Effect.TheVariants as effect
use Rattle.deck9.specs.declared.going.Going.{Going}
use Rattle.deck9.specs.declared.going.Lost.{Lost}
use Rattle.deck9.specs.declared.going.Lost.TheVariants.{NoRegister, Points, AllRegisters}
use Rattle.deck9.specs.declared.mode.Mode.TheVariants.{Stop}
use Rattle.deck9.specs.declared.profile.Profile.{Profile}
use Rattle.deck9.specs.declared.state.Hands.{Hands}
use Rattle.deck9.specs.declared.state.Hands.TheVariants as hands
use Rattle.deck9.specs.declared.state.Register.{Register}
use Rattle.deck9.specs.declared.state.Register.TheVariants.{RegIn, RegOut, RegAudioIn, RegAudioOut}
use Rattle.deck9.specs.Effect.{listed_effect}
use Rattle.deck9.specs.ModeSet.{either, modes}

-- a register may become clear
abbrev pub may_lose : Lost → Register → Bool
may_lose NoRegister r = false
may_lose Points RegIn = true
may_lose Points RegOut = true
may_lose Points RegAudioIn = false
may_lose Points RegAudioOut = false
may_lose AllRegisters r = true

-- the registers of either
abbrev pub more_lost : Lost → Lost → Lost
more_lost NoRegister lost = lost
more_lost Points NoRegister = Points
more_lost Points lost = lost
more_lost AllRegisters lost = AllRegisters

-- nothing goes on
abbrev pub nothing_on : Going
nothing_on = record { modes = modes 0; lost = NoRegister }

-- what goes on in either
abbrev pub together : Going → Going → Going
together a b = record { modes = either a.modes b.modes; lost = more_lost a.lost b.lost }

-- what goes on in this, or in any of these
abbrev pub all_with : Going → List Going → Going
all_with g [] = g
all_with g (h ∷ hs) = all_with (together g h) hs

-- what may be going on before a capture: all that is named, since nobody knows what was begun before
abbrev pub on_at_first : Option Deck → Going
on_at_first None = nothing_on
on_at_first (Some d) = all_with nothing_on (values d.acts)

-- what is named for a command, by the first two bytes of its block as one number
abbrev pub named_on : Option Deck → ℕ → Option Going
named_on None head = None
named_on (Some d) head = get nat_cmp d.acts head

-- what a command leaves by its own effect: nothing where it sets another goal than STOP, no mode where it sets STOP, and all as it was
-- where it sets none
abbrev pub left_by : Effect → Going → Going
left_by (effect.Go Stop) g = record g { modes = modes 0 }
left_by (effect.Go goal) g = nothing_on
left_by _ g = g

-- what a command leaves that is acknowledged: what is named for it, or else what its effect leaves
abbrev pub left_after : Option Deck → Command → ℕ → Going → Going
left_after deck command head g = named_or (named_on deck head) (left_by (listed_effect command) g)
  where
    named_or : Option Going → Going → Going
    named_or None left = left
    named_or (Some named) left = named

-- what goes on after a command whose reply is not known: what did, and what is named for it
abbrev pub with_named : Option Going → Going → Going
with_named None g = g
with_named (Some named) g = together g named

-- what goes on after a command of group 2 whose reply is believed, or not: a NAK ends and begins nothing
abbrev pub after_transport : Option Deck → Bool → Exchange → Going → Going
after_transport deck true e g = if is_nak e.reply then g else left_after deck e.command (head_of e.block) g
after_transport deck false e g = with_named (named_on deck (head_of e.block)) g

-- what goes on after an exchange: commands of group 2 alone, those of the transport, end or begin anything
abbrev pub on_after : Option Deck → Bool → Exchange → Going → Going
on_after deck believed e g = if e.block.group == 2 then after_transport deck believed e g else g

-- the same of a deck that is taken for this: with hands all goes on that did, since a hand may have begun it
abbrev pub goes_on : Profile → Bool → Exchange → Going → Going
goes_on p believed e g = by_hands p.hands
  where
    by_hands : Hands → Going
    by_hands hands.Allowed = g
    by_hands hands.None = on_after p.deck believed e g
