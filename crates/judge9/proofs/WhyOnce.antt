-- Why a part breaks is told in one way.
use Rattle.judge9.proofs.Words.{[], ap, append-nil, arith, Block, Bool, BrokenPart, bytes_of, Command, command_of, Controller, CouldShow, cut_once, EndedExchange, Exchange, has, HasRun}
use Rattle.judge9.proofs.Words.{if◌then◌else◌, IsBefore, IsCommand, IsExchange, IsKnowledge, IsKnown, IsKnownEntry, IsOpenAfter, IsTail, IsWhy, Knowledge, Known, KnownEntry, length, length_push}
use Rattle.judge9.proofs.Words.{line_rules, LineByte, LineRules, List, Mode, ModeSet, None, Open, Option, Profile, refl, Register, Some, some_end, State, sym, Terms, text_of_why, true, WhyNo, ◌++◌}
use Rattle.judge9.proofs.Words.{◌↔◌, ◌∙◌, ◌∷◌, ◌≡◌}
use Rattle.std.specs.Prelude.{codes, ◌%◌}
use Rattle.std.specs.List.{list_all, list_any, sum}
use Rattle.block9.proofs.LineLemmas.{whole_parts}
use Rattle.block9.proofs.TailLemmas.{in_reply_of, place_in_command, place_of_command}
use Rattle.block9.specs.Line.{block_len}
use Rattle.block9.specs.Pairer.IsOpenAfter.{after_command, in_command, in_reply, nothing}
use Rattle.block9.specs.Working.Table.{place_of}
use Rattle.deck9.specs.Mode.{every_mode, name_of as name_of_mode}
use Rattle.report9.specs.ExchangeBytes.{text_of_modes}
use Rattle.report9.specs.Row.{in_a_row, names_of}
use Rattle.report9.specs.WhyText.{line_of_could_show, lines_of_break, text_of_shown}
use Rattle.why9.proofs.OneContradiction.{one_contradiction}
use Rattle.why9.specs.Shown.{CouldBe}
use Rattle.judge9.proofs.EventSteps.{push_once}

-- ---- what is open

-- what is open in a reply to a command
abbrev in_reply_with : Command → List LineByte → List LineByte → Open
in_reply_with c command reply = record { command = Some c; asked = length command; answered = length reply; wanted = block_len reply; sum = sum (bytes_of reply) % 256 }

module _ (rules : LineRules) where
  command_once : (t : List LineByte) (b d : Block) (c e : Command) → IsCommand rules t b c → IsCommand rules t d e → c ≡ e
  command_once t b d c e h k =
      let block = (whole_parts Controller t t [] [] b d h.whole k.whole refl).2 in
      let meaning = sym h.meaning ∙ ap (λ x. command_of rules.rate x) block ∙ k.meaning in cc

  -- where the tail stands, by what is open
  abbrev stands_at : (t : List LineByte) (o : Open) → IsOpenAfter rules t o → (p : _) × (place_of t ≡ p)
  stands_at t o (nothing none same) = (place_of [], rw none refl)
  stands_at t o (in_command begun same) = (_, place_in_command rules Controller t begun)
  stands_at t o (after_command b c h same) = (_, place_of_command rules Controller t b h.whole)
  stands_at t o (in_reply command reply b c split h begun soon same) = (_, (in_reply_of rules command reply t b c split h begun.begun).place)

  open_once : (t : List LineByte) (o p : Open) → IsOpenAfter rules t o → IsOpenAfter rules t p → o ≡ p
  open_once t o p (nothing none same) (nothing also is) = same ∙ sym is
  open_once t o p (in_command begun same) (in_command also is) = same ∙ sym is
  open_once t o p (after_command b c h same) (after_command d e k is) =
      same ∙ ap (λ x. record { command = Some x; asked = length t; answered = 0; wanted = 0; sum = 0 }) (command_once t b d c e h k) ∙ sym is
  open_once t o p (in_reply command reply b c split h answered soon same) (in_reply asked answer d e parted k replied later is) =
      let parts = whole_parts Controller command asked reply answer b d h.whole k.whole (sym split ∙ parted) in
      let one = command_once asked b d c e (rw parts.0 at h) k in
      same ∙ ap (λ l. in_reply_with c l reply) parts.0 ∙ ap (λ l. in_reply_with c asked l) parts.1 ∙ ap (λ x. in_reply_with x asked answer) one ∙ sym is
  open_once t o p h k = absurd (cc ((stands_at t o h).1, (stands_at t p k).1))

-- ---- the exchange before

ended_by_fields : (a b : EndedExchange) → a.exchange ≡ b.exchange → a.end_us ≡ b.end_us → Some a ≡ Some b
ended_by_fields a b exchange end = grind arith

before_once : (records : List LineByte) (es : List Exchange) (tail : List LineByte) (x y : Option EndedExchange) → IsBefore records es tail x → IsBefore records es tail y → x ≡ y
before_once records es (r ∷ tail) x y a b = a ∙ sym b
before_once records es [] None None a b = refl
before_once records es [] None (Some last) a b = absurd (omega (arith, ap length (sym a ∙ b.1), length_push b.0 last.exchange))
before_once records es [] (Some last) None a b = absurd (omega (arith, ap length (sym b ∙ a.1), length_push a.0 last.exchange))
before_once records es [] (Some last) (Some other) a b =
    let exchange = (push_once a.0 b.0 last.exchange other.exchange (sym a.1 ∙ b.1)).1 in
    ended_by_fields last other exchange (cc (a.2, b.2))

-- ---- what the deck could show

known_once : {A : Type 0} (X : State → Type 0) (field : State → A) (a b : Known A) → ((s : State) × X s) → IsKnown X field a → IsKnown X field b → a ≡ b
known_once X field a b some h k = grind arith

entry_once : (X : State → Type 0) (r : Register) (a b : KnownEntry) → ((s : State) × X s) → IsKnownEntry X r a → IsKnownEntry X r b → a ≡ b
entry_once X r a b some h k = grind arith

knowledge_once : (X : State → Type 0) (k l : Knowledge) → ((s : State) × X s) → IsKnowledge X k → IsKnowledge X l → k ≡ l
knowledge_once X k l some a b = grind (
  arith,
  known_once X (λ (s : State). s.goal) k.goal l.goal some a.goal b.goal,
  known_once X (λ (s : State). s.shown) k.shown l.shown some a.shown b.shown,
  known_once X (λ (s : State). s.local) k.local l.local some a.local b.local,
  known_once X (λ (s : State). s.panel) k.panel l.panel some a.panel b.panel,
  entry_once X Register.RegIn k.ins l.ins some a.ins b.ins,
  entry_once X Register.RegOut k.outs l.outs some a.outs b.outs,
  entry_once X Register.RegAudioIn k.ains l.ains some a.ains b.ains,
  entry_once X Register.RegAudioOut k.aouts l.aouts some a.aouts b.aouts,
)

bool_once : (a b : Bool) (P : Type 0) → (a ≡ true) ↔ P → (b ≡ true) ↔ P → a ≡ b
bool_once a b P h k = grind arith

shown_once : (set other : ModeSet) → ((m : Mode) → has set.0 m ≡ has other.0 m) → text_of_shown set ≡ text_of_shown other
unfolding text_of_shown text_of_modes
shown_once set other same =
    let whole : has set.0 ≡ has other.0 = λ i m. same m i in
    ap (λ (shows : Mode → Bool). if list_all shows every_mode then codes "any"
    else (if list_any shows every_mode then in_a_row [] (codes "|") (names_of shows name_of_mode every_mode) else codes "none")) whole

could_show_once : (profile : Profile) (es : List Exchange) (e : Exchange) (k l : Knowledge) (set other : ModeSet) → HasRun profile es
    → CouldShow profile (es ++ e ∷ []) k set → CouldShow profile (es ++ e ∷ []) l other → line_of_could_show profile k set ≡ line_of_could_show profile l other
unfolding line_of_could_show
could_show_once profile es e k l set other run a b = cc (shown_once set other modes, knows)
  where
    one : a.before ≡ es
    one = sym (push_once es a.before e a.last a.split).0

    also : b.before ≡ es
    also = sym (push_once es b.before e b.last b.split).0

    some : (s : State) × CouldBe profile es s
    some = let end = (some_end profile es).1 run in (end.0, (end.0, end.1, ([], refl)))

    knows : k ≡ l
    knows = knowledge_once (CouldBe profile es) k l some (rw one at a.knows) (rw also at b.knows)

    modes : (m : Mode) → has set.0 m ≡ has other.0 m
    modes m = bool_once (has set.0 m) (has other.0 m) ((s : State) × CouldBe profile es s × (s.shown ≡ m)) (rw one at (a.shows m)) (rw also at (b.shows m))

-- ---- why a part breaks

exchange_once : (rules : LineRules) (records : List LineByte) (e f : Exchange) → IsExchange rules records e → IsExchange rules records f → e ≡ f
exchange_once rules records e f h k =
    let split = sym (append-nil records) in
    let same = (cut_once rules records (e ∷ []) (f ∷ []) [] [] (records, [], split, h, (refl, IsTail.nothing refl)) (records, [], split, k, (refl, IsTail.nothing refl))).0 in
    cc

pub why_once : (terms : Terms) (b : BrokenPart) (v w : WhyNo) → HasRun terms.profile b.part.exchanges → IsWhy terms b v → IsWhy terms b w
    → text_of_why terms.profile v ≡ text_of_why terms.profile w
unfolding lines_of_break
why_once terms b (WhyNo.Break at reason tail o before r) (WhyNo.Break n x items p last s) run is also =
    cc (
      is.0 ∙ sym also.0,
      is.1 ∙ sym also.1,
      is.3 ∙ sym also.3,
      is.4 ∙ sym also.4,
      open_once (line_rules terms) b.part.tail o p is.5 also.5,
      before_once b.part.records b.part.exchanges b.part.tail before last is.6 also.6,
    )
why_once terms b (WhyNo.Break at reason tail o before r) (WhyNo.Contradiction n es places k set) run is also = absurd (is.2 also.1)
why_once terms b (WhyNo.Contradiction n es places k set) (WhyNo.Break at reason tail o before r) run is also = absurd (also.2 is.1)
why_once terms b (WhyNo.Contradiction at es places k set) (WhyNo.Contradiction n fs others l modes) run is also =
    let p0 = terms.profile in
    let ended = exchange_once (line_rules terms) (b.part.tail ++ b.breaking ∷ []) is.2 also.2 is.3 also.3 in
    let exchanges : es.items ≡ b.part.exchanges ++ also.2 ∷ [] = is.4 ∙ ap (λ e. b.part.exchanges ++ e ∷ []) ended in
    let same : es.items ≡ fs.items = exchanges ∙ sym also.4 in
    cc (
      is.0 ∙ sym also.0,
      same,
      one_contradiction p0 fs.items places.items others.items (rw same at is.5) also.5,
      could_show_once p0 b.part.exchanges also.2 k l set modes run (rw exchanges at is.6) (rw also.4 at also.6),
    )
