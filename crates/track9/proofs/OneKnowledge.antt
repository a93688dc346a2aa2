-- At most one thing is known of states, of which there is one; and of the same states the same.
use Rattle.track9.proofs.Words.{Ends, Exchange, Profile, HasRun, IsKnowledge, IsKnown, IsKnownEntry, Knowledge, Known, KnownEntry, List, RegAudioIn}
use Rattle.track9.proofs.Words.{RegAudioOut, RegIn, Register, RegOut, some_end, State, ◌↔◌, ◌≡◌}
use Rattle.std.proofs.Common.{arith}

known_once : {A : Type 0} (X : State → Type 0) (field : State → A) (a b : Known A) → ((s : State) × X s) → IsKnown X field a → IsKnown X field b → a ≡ b
known_once X field a b some h k = grind arith

entry_once : (X : State → Type 0) (r : Register) (a b : KnownEntry) → ((s : State) × X s) → IsKnownEntry X r a → IsKnownEntry X r b → a ≡ b
entry_once X r a b some h k = grind arith

pub known_of_ends : (p : Profile) (es : List Exchange) (k l : Knowledge) → HasRun p es → IsKnowledge (Ends p es) k → IsKnowledge (Ends p es) l → k ≡ l
known_of_ends p es k l run a b = let some = (some_end p es).1 run in grind (
  arith,
  known_once (Ends p es) (λ (s : State). s.goal) k.goal l.goal some a.goal b.goal,
  known_once (Ends p es) (λ (s : State). s.shown) k.shown l.shown some a.shown b.shown,
  known_once (Ends p es) (λ (s : State). s.local) k.local l.local some a.local b.local,
  known_once (Ends p es) (λ (s : State). s.panel) k.panel l.panel some a.panel b.panel,
  entry_once (Ends p es) RegIn k.ins l.ins some a.ins b.ins,
  entry_once (Ends p es) RegOut k.outs l.outs some a.outs b.outs,
  entry_once (Ends p es) RegAudioIn k.ains l.ains some a.ains b.ains,
  entry_once (Ends p es) RegAudioOut k.aouts l.aouts some a.aouts b.aouts,
)

-- ---- the same states, the same knowledge

known_same : {A : Type 0} (X Y : State → Type 0) (field : State → A) (k : Known A) → ((s : State) → X s ↔ Y s) → IsKnown X field k → IsKnown Y field k
known_same X Y field k same h = grind (arith)

entry_same : (X Y : State → Type 0) (r : Register) (k : KnownEntry) → ((s : State) → X s ↔ Y s) → IsKnownEntry X r k → IsKnownEntry Y r k
entry_same X Y r k same h = grind (arith)

pub knowledge_same : (X Y : State → Type 0) (k : Knowledge) → ((s : State) → X s ↔ Y s) → IsKnowledge X k → IsKnowledge Y k
knowledge_same X Y k same h = search (known_same, entry_same)
