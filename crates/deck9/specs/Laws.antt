-- What the laws say beside the deck's own definitions.
use Rattle.std.specs.Prelude.{ℕ, ◌≡◌, ◌≢◌, ◌<◌, ◌⊎◌, Bool, true, false, ⊤, List, [], ◌∷◌, Option, Some, None}
use Rattle.std.specs.List.{All}
use Rattle.tc25.specs.Day.{day}
use Rattle.tc25.specs.declared.rate.Rate.{Rate}
use Rattle.block9.specs.declared.block.Block.{Block}
use Rattle.block9.specs.declared.command.Command.{Command}
use Rattle.block9.specs.declared.exchange.Exchange.{Exchange}
use Rattle.block9.specs.Block.{IsBlock}
use Rattle.block9.specs.Command.{fits, is_reply_time_valid}
use Rattle.deck9.specs.declared.effect.Effect.TheVariants as effect
use Rattle.deck9.specs.declared.effect.Change.TheVariants.{SetAt}
use Rattle.deck9.specs.declared.deck.Deck.{Deck}
use Rattle.deck9.specs.declared.deck.Forgotten.{Forgotten}
use Rattle.deck9.specs.declared.deck.Forgotten.TheVariants.{Everything, Motion, Nothing, Registers, Tape}
use Rattle.deck9.specs.declared.going.Going.{Going}
use Rattle.deck9.specs.declared.mode.Mode.{Mode}
use Rattle.deck9.specs.declared.mode_set.ModeSet.{ModeSet}
use Rattle.deck9.specs.declared.profile.Profile.{Profile}
use Rattle.deck9.specs.declared.state.Register.{Register}
use Rattle.deck9.specs.declared.state.State.{State}
use Rattle.deck9.specs.Contradict.{behind_first}
use Rattle.deck9.specs.Deck.{forgotten_at, forgotten_beside, goals_at, named_beside, way_of}
use Rattle.deck9.specs.Effect.{Does, effect_of, Forgets, listed_effect}
use Rattle.deck9.specs.Going.{left_by, may_lose, named_on, nothing_on, on_after, on_at_first}
use Rattle.deck9.specs.ModeSet.{has}
use Rattle.deck9.specs.State.{IsState}
use Rattle.deck9.specs.Status.{may_show}

-- where the command sets a register at a time, that is a time of the day
abbrev pub SetsInDay : Rate → Command → Type 0
SetsInDay rate command = (r : Register) (t : ℕ) → listed_effect command ≡ effect.Change r (SetAt t) → t < day rate

-- a right reply to the command: a block of bytes, of a kind that the command may have, whose time is valid where it has to be
pub record IsRightReply (rate : Rate) (command : Command) (reply : Block) : Type 0 where
  pub block : IsBlock reply
  pub code_byte : reply.code < 256
  pub data_bytes : All (λ byte. byte < 256) reply.bytes.items
  pub kind : fits command reply ≡ true
  pub valid_time : is_reply_time_valid rate command reply ≡ true

-- the same reply where it is believed, and else any right one
abbrev pub MayReply : Rate → Bool → Exchange → Block → Type 0
MayReply rate true e reply = reply ≡ e.reply
MayReply rate false e reply = IsRightReply rate e.command reply

-- the same exchanges, with other right replies at the places where they are not believed
abbrev pub AreAnswered : Rate → (ℕ → Bool) → List Exchange → List Exchange → Type 0
AreAnswered rate is_believed [] [] = ⊤
AreAnswered rate is_believed (e ∷ es) (f ∷ fs) =
    (reply : Block) × MayReply rate (is_believed 0) e reply × (f ≡ record e { reply = reply }) × AreAnswered rate (behind_first is_believed) es fs
AreAnswered rate is_believed _ _ = ⊥

-- status data 1 and 2, bytes, that fit just the modes of which this is true
pub record ShowJust (is_shown : Mode → Bool) : Type 0 where
  pub datum1 : ℕ
  pub datum2 : ℕ
  pub is_byte1 : datum1 < 256
  pub is_byte2 : datum2 < 256
  pub just : (m : Mode) → may_show (Some datum1) (Some datum2) m ≡ is_shown m

-- each command does no more to a deck of the first kind than to one of the second, and no more is forgotten beside it
pub record ForgetsNoMore (p : Profile) (less more : Option Deck) : Type 0 where
  pub effects : (c : Command) (s t : State) → IsState p.rate s
      → Does (record p { deck = less }) (effect_of less c) s t → Does (record p { deck = more }) (effect_of more c) s t
  pub beside : (c : Command) (head : ℕ) (s t : State) → IsState p.rate s
      → Forgets (record p { deck = less }) (forgotten_beside less c head) s t → Forgets (record p { deck = more }) (forgotten_beside more c head) s t

-- nothing is named beside any command's effect
abbrev pub ForgetsNothingBeside : Option Deck → Type 0
ForgetsNothingBeside deck = (c : Command) (head : ℕ) → forgotten_beside deck c head ≡ Nothing

-- the modes on the way to each goal of a deck of the first kind are on the way to it of one of the second
abbrev pub PassesNoMore : Option Deck → Option Deck → Type 0
PassesNoMore less more = (g m : Mode) → has (way_of less g).0 m ≡ true → has (way_of more g).0 m ≡ true

-- ---- in a sheet's own words

-- the first word forgets no more than the second
abbrev pub IsNoMore : Forgotten → Forgotten → Type 0
IsNoMore Nothing more = ⊤
IsNoMore less Everything = ⊤
IsNoMore Motion Motion = ⊤
IsNoMore Registers Registers = ⊤
IsNoMore less Tape = less ≢ Everything
IsNoMore less more = ⊥

-- a command that is not listed, with these goals or else this word, does no more than one with those
abbrev pub DoesNoMore : Option ModeSet → Forgotten → Option ModeSet → Forgotten → Type 0
DoesNoMore None less None more = IsNoMore less more
DoesNoMore None less (Some goals) more = less ≡ Nothing
DoesNoMore (Some goals) less None more = IsNoMore Motion more
DoesNoMore (Some fewer) less (Some goals) more = (m : Mode) → has fewer.0 m ≡ true → has goals.0 m ≡ true

-- at each command a deck of the first kind does no more than one of the second, and forgets no more beside its effect
pub record SaysNoMore (less more : Option Deck) : Type 0 where
  pub unlisted : (head : ℕ) → DoesNoMore (goals_at less head) (forgotten_at less head) (goals_at more head) (forgotten_at more head)
  pub beside : (head : ℕ) → IsNoMore (named_beside less head) (named_beside more head)

-- ---- what may be going on

-- what goes on in the first goes on in the second
pub record IsPartOf (less more : Going) : Type 0 where
  pub modes : (m : Mode) → has less.modes.0 m ≡ true → has more.modes.0 m ≡ true
  pub lost : (r : Register) → may_lose less.lost r ≡ true → may_lose more.lost r ≡ true

-- what may be going on at a deck of the first kind may be at one of the second, at first and after each exchange
pub record GoesOnNoMore (less more : Option Deck) : Type 0 where
  pub at_first : IsPartOf (on_at_first less) (on_at_first more)
  pub after : (b : Bool) (e : Exchange) (g h : Going) → IsPartOf g h → IsPartOf g (on_at_first less) → IsPartOf (on_after less b e g) (on_after more b e h)

-- ---- in a sheet's own words

-- the command leaves nothing going on where nothing is named for it
abbrev pub LeavesNothing : Command → Type 0
LeavesNothing command = (g : Going) → left_by (listed_effect command) g ≡ nothing_on

-- what is named in the first for a command is a part of what is in the second. Where only the second names something, the command leaves
-- nothing without that, or that has all that the first names
abbrev pub NamedIsPartOf : Going → Command → Option Going → Option Going → Type 0
NamedIsPartOf all command None None = ⊤
NamedIsPartOf all command None (Some more) = LeavesNothing command ⊎ IsPartOf all more
NamedIsPartOf all command (Some less) None = ⊥
NamedIsPartOf all command (Some less) (Some more) = IsPartOf less more

-- so it is for each command, and for all that is named
pub record NamesNoMore (less more : Option Deck) : Type 0 where
  pub all : IsPartOf (on_at_first less) (on_at_first more)
  pub at : (command : Command) (head : ℕ) → NamedIsPartOf (on_at_first less) command (named_on less head) (named_on more head)
