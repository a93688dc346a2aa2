-- What is known of a set of states: that on which all of them agree.
use Rattle.std.specs.Prelude.{◌≡◌, ◌≢◌, true}
use Rattle.deck9.specs.declared.knowledge.Known.{Known}
use Rattle.deck9.specs.declared.knowledge.Known.TheVariants as known
use Rattle.deck9.specs.declared.knowledge.KnownEntry.{KnownEntry}
use Rattle.deck9.specs.declared.knowledge.KnownEntry.TheVariants as entry
use Rattle.deck9.specs.declared.knowledge.Knowledge.{Knowledge}
use Rattle.deck9.specs.declared.state.Entry.TheVariants.{Clear, At}
use Rattle.deck9.specs.declared.state.Register.{Register}
use Rattle.deck9.specs.declared.state.Register.TheVariants.{RegIn, RegOut, RegAudioIn, RegAudioOut}
use Rattle.deck9.specs.declared.state.State.{State}
use Rattle.deck9.specs.State.{entry_of, is_set}

-- all states have this value, or two of them differ
abbrev pub IsKnown : {A : Type 0} → (State → Type 0) → (State → A) → Known A → Type 0
IsKnown X field (known.Is v) = (s : State) → X s → field s ≡ v
IsKnown X field known.Unknown = (s t : State) × X s × X t × (field s ≢ field t)

-- of a register: all are Clear; all are Set at one time; all are Set and two differ; one is Clear and one is Set
abbrev pub IsKnownEntry : (State → Type 0) → Register → KnownEntry → Type 0
IsKnownEntry X r entry.Clear = (s : State) → X s → entry_of r s ≡ Clear
IsKnownEntry X r (entry.At time) = (s : State) → X s → entry_of r s ≡ At time
IsKnownEntry X r entry.SetSomewhere =
    ((s : State) → X s → is_set (entry_of r s) ≡ true) × ((s t : State) × X s × X t × (entry_of r s ≢ entry_of r t))
IsKnownEntry X r entry.Unknown =
    (s t : State) × X s × X t × (entry_of r s ≡ Clear) × (is_set (entry_of r t) ≡ true)

-- field by field, of a set of states that is not empty
pub record IsKnowledge (X : State → Type 0) (k : Knowledge) : Type 0 where
  pub goal : IsKnown X (λ (s : State). s.goal) k.goal
  pub shown : IsKnown X (λ (s : State). s.shown) k.shown
  pub ins : IsKnownEntry X RegIn k.ins
  pub outs : IsKnownEntry X RegOut k.outs
  pub ains : IsKnownEntry X RegAudioIn k.ains
  pub aouts : IsKnownEntry X RegAudioOut k.aouts
  pub local : IsKnown X (λ (s : State). s.local) k.local
  pub panel : IsKnown X (λ (s : State). s.panel) k.panel
