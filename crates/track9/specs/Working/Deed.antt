-- What an exchange tells of the deck and does to it after the drift, once its command and its reply are decoded.
use Rattle.std.specs.Prelude.{◌≡◌, ◌<◌, ◌⊎◌, ◌||◌, ◌&&◌, if◌then◌else◌, ⊤}
use Rattle.track9.specs.Working.Deck.{At, Block, Bool, Clear, Command, day, Deck, Does, Effect, effect_of, Entry, entry_of, false, is_nak, is_of_goal_or_register, None, Option, Presets, Profile, Rate, Sense, SetAt}
use Rattle.track9.specs.Working.Deck.{shown_by, ShowsStatus, Some, State, status_of, time_of, true, with_one, ℕ}
use Rattle.deck9.specs.declared.deck.Forgotten.TheVariants as forgotten
use Rattle.deck9.specs.declared.effect.Effect.TheVariants as effect
use Rattle.deck9.specs.declared.sense.Sense.TheVariants as sense
use Rattle.track9.specs.Frugal.{is_frugal_effect}
use Rattle.track9.specs.declared.deed.Deed.{Deed}
use Rattle.track9.specs.declared.deed.Deed.TheVariants as deed

-- a Set entry has the time that was read, one of the day: none where the reply gave no valid one; a Clear one goes with any
abbrev pub Gives : Rate → Option ℕ → Entry → Type 0
Gives rate time Clear = ⊤
Gives rate time (At t) = (t < day rate) × (time ≡ Some t)

-- an effect, or nothing where any deck may stay as it is, or one in LOCAL that ignores it
abbrev pub DoesOrStays : Profile → Bool → Effect → State → State → Type 0
DoesOrStays p may_stay e s t = Does p e s t ⊎ ((((is_of_goal_or_register e && s.local) || may_stay) ≡ true) × (t ≡ s))

-- what a deed may make of a state
abbrev pub Acts : Deed → Profile → State → State → Type 0
Acts (deed.Read r time) p s t = Gives p.rate time (entry_of r s) × (t ≡ s)
Acts (deed.Report status) p s t = ShowsStatus s status × (t ≡ s)
Acts (deed.Apply e may_stay) p s t = DoesOrStays p may_stay e s t

-- the deed of an exchange whose reply shows this
abbrev pub deed_showing : Option Deck → Rate → Command → Block → Sense → Deed
deed_showing deck rate command reply (sense.Register r) = deed.Read r (time_of rate reply.bytes.items)
deed_showing deck rate command reply (sense.Status asked) = deed.Report (status_of asked reply)
deed_showing deck rate command reply sense.Nothing = deed.Apply (effect_of deck command) false

-- nothing
abbrev pub no_deed : Deed
no_deed = deed.Apply effect.Nothing false

-- the deed of an exchange: a NAK does nothing
abbrev pub deed_exchanged : Option Deck → Rate → Command → Block → Deed
deed_exchanged deck rate command reply = if is_nak reply then no_deed else deed_showing deck rate command reply (shown_by command reply)

-- the deed of a command whose reply is not known: its effect, or nothing
abbrev pub deed_passed : Option Deck → Command → Deed
deed_passed deck command = deed.Apply (effect_of deck command) true

-- the deed of a command and its reply, where that is known
abbrev pub deed_of : Option Deck → Rate → Command → Option Block → Deed
deed_of deck rate command (Some reply) = deed_exchanged deck rate command reply
deed_of deck rate command None = deed_passed deck command

-- the counts after an effect
abbrev pub counted : Effect → Presets → Presets
counted (effect.Change r (SetAt t)) n = with_one r n
counted _ n = n

-- the counts after a deed
abbrev pub counts_after : Deed → Presets → Presets
counts_after (deed.Apply e may_stay) n = counted e n
counts_after _ n = n

-- it takes no memory where hands are not allowed
abbrev pub is_frugal_deed : Deed → Bool
is_frugal_deed (deed.Read r time) = false
is_frugal_deed (deed.Report status) = true
is_frugal_deed (deed.Apply e may_stay) = is_frugal_effect e

-- a hand on the panel makes a difference to it
abbrev pub is_wide_effect : Effect → Bool
is_wide_effect (effect.Panel on) = true
is_wide_effect (effect.Forget forgotten.Everything) = true
is_wide_effect _ = false

abbrev pub is_wide : Deed → Bool
is_wide (deed.Apply e may_stay) = is_wide_effect e
is_wide _ = false
