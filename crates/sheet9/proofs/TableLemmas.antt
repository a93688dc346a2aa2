-- A deck does what the tables of a sheet say, and what is said that commands do is read by a map.
use mathlib.Core.Path.{fun_ext}
use Rattle.sheet9.proofs.Words.{arith, List, nat_cmp, None, Option, refl, Some, sym, ℕ, ◌∙◌, ◌≡◌}
use Rattle.std.proofs.Common.{ap, subst}
use Rattle.std.specs.BTreeMap.{BTreeMap, get}
use Rattle.std.specs.Prelude.{Err, IsOkAnd, Ok, option_map, Result}
use Rattle.toml.specs.Data.{Data}
use Rattle.block9.specs.declared.replies.ReplyForm.{ReplyForm}
use Rattle.deck9.specs.declared.deck.Forgotten.{Forgotten}
use Rattle.deck9.specs.declared.going.Lost.{Lost}
use Rattle.deck9.specs.declared.mode_set.ModeSet.{ModeSet}
use Rattle.sheet9.specs.declared.effects.Effects.{Effects}
use Rattle.sheet9.specs.declared.refusal.SheetError.{SheetError}
use Rattle.sheet9.specs.declared.refusal.SheetError.TheVariants as error
use Rattle.sheet9.specs.declared.said.Said.{Said}
use Rattle.sheet9.specs.Refusal.{and_then, Fault}
use Rattle.sheet9.specs.Entries.{said_at}
use Rattle.sheet9.specs.Goals.{goals_in}
use Rattle.sheet9.specs.Working.{AreEffectsOf, HasSaid, IsSaid, ReportsWithoutLine}

-- ---- what is said of commands, read by a map

itself : {X : Type 0} (o : Option X) → option_map (λ x. x) o ≡ o
itself None = refl
itself (Some x) = refl

-- a map is asked as what is said
same_said : {X : Type 0} (said : List (ℕ × X)) (m : BTreeMap ℕ X) → ((head : ℕ) → option_map (λ x. x) (get nat_cmp m head) ≡ said_at said head) → get nat_cmp m ≡ said_at said
same_said said m has = fun_ext (λ head. sym (itself (get nat_cmp m head)) ∙ has head)

-- ---- what the tables mean

pub tables_mean : (effects : Result (List (ℕ × Forgotten) × List (ℕ × ModeSet)) Fault) (losses : Result (List (ℕ × Lost)) Fault) (names : Result (List (ℕ × List ℕ)) Fault)
    (ways : Result (List ModeSet) Fault) (replies : Result (List (ℕ × List ReplyForm)) Fault) (runs : Result (List (ℕ × ModeSet)) Fault) (read : Effects) (said : Said)
    → said.forgets ≡ read.forgets → said.goals ≡ read.goals → IsOkAnd effects (λ said. AreEffectsOf said read) → HasSaid (λ lost. lost) losses said.loses
    → HasSaid (λ name. name.items) names said.names → ways ≡ Ok said.ways → HasSaid (λ forms. forms.items) replies said.replies → HasSaid (λ run. run.0) runs said.runs
    → IsOkAnd
    (and_then effects (λ e. and_then losses (λ l. and_then names (λ n. and_then ways (λ w. and_then replies (λ r. and_then runs
    (λ s. Ok (record { forgets = e.0; goals = e.1; loses = l; names = n; ways = w; replies = r; runs = s }))))))))
    (λ sheet. IsSaid sheet said)
tables_mean (Ok e) (Ok l) (Ok n) ways (Ok r) (Ok s) read said forgets goals does loses called own taken shows = rw own (record {
  forgets = λ head. rw forgets (does.forgets head);
  goals = λ head. rw goals (does.goals head);
  loses = λ head. ap (λ at. at head) (same_said l said.loses loses);
  names = called;
  ways = refl;
  replies = taken;
  runs = shows;
})
tables_mean (Ok e) (Ok l) (Ok n) ways (Ok r) (Err fault) read said forgets goals does loses called own taken shows = absurd shows
tables_mean (Ok e) (Ok l) (Ok n) ways (Err fault) runs read said forgets goals does loses called own taken shows = absurd taken
tables_mean (Ok e) (Ok l) (Err fault) ways replies runs read said forgets goals does loses called own taken shows = absurd called
tables_mean (Ok e) (Err fault) names ways replies runs read said forgets goals does loses called own taken shows = absurd loses
tables_mean (Err fault) losses names ways replies runs read said forgets goals does loses called own taken shows = absurd does

-- ---- what is said that commands do

module _ (forgets : Result (List (ℕ × Forgotten)) Fault) (value : Option Data) (forgotten : BTreeMap ℕ Forgotten) (forgot : HasSaid (λ x. x) forgets forgotten) where
  abbrev meaning : Result (List (ℕ × Forgotten) × List (ℕ × ModeSet)) Fault
  meaning = and_then forgets (λ f. and_then (goals_in (said_at f) value) (λ g. Ok (f, g)))

  by_map : (f : List (ℕ × Forgotten)) → forgets ≡ Ok f → get nat_cmp forgotten ≡ said_at f
  by_map f same = same_said f forgotten (subst (λ meaning. HasSaid (λ x. x) meaning forgotten) same forgot)

  pub effects_mean : (effects : Effects) → effects.forgets ≡ forgotten → HasSaid (λ x. x) (goals_in (get nat_cmp forgotten) value) effects.goals
      → IsOkAnd meaning (λ said. AreEffectsOf said effects)
  effects_mean effects own leads = by_forgets forgets refl
    where
      by_goals : (f : List (ℕ × Forgotten)) (goals : Result (List (ℕ × ModeSet)) Fault) → get nat_cmp forgotten ≡ said_at f → HasSaid (λ x. x) goals effects.goals
          → IsOkAnd (and_then goals (λ g. Ok (f, g))) (λ said. AreEffectsOf said effects)
      by_goals f (Ok g) same led = record { forgets = λ head. rw own (ap (λ at. at head) same); goals = λ head. ap (λ at. at head) (same_said g effects.goals led) }
      by_goals f (Err fault) same led = absurd led

      by_forgets : (known : Result (List (ℕ × Forgotten)) Fault) → forgets ≡ known
          → IsOkAnd (and_then known (λ f. and_then (goals_in (said_at f) value) (λ g. Ok (f, g)))) (λ said. AreEffectsOf said effects)
      by_forgets (Ok f) same = let map = by_map f same in
          by_goals f (goals_in (said_at f) value) map (subst (λ said. HasSaid (λ x. x) (goals_in said value) effects.goals) map leads)
      by_forgets (Err fault) same = absurd (subst (λ meaning. HasSaid (λ x. x) meaning forgotten) same forgot)

  pub effects_fault : (e : SheetError) → ReportsWithoutLine (goals_in (get nat_cmp forgotten) value) e → ReportsWithoutLine meaning e
  effects_fault e wrong = by_forgets forgets refl
    where
      first : (f : List (ℕ × Forgotten)) (goals : Result (List (ℕ × ModeSet)) Fault) (e : SheetError) → ReportsWithoutLine goals e
          → ReportsWithoutLine {A = List (ℕ × Forgotten) × List (ℕ × ModeSet)} (and_then goals (λ g. Ok (f, g))) e
      first f (Err fault) (error.Refused r) (same, line) = (grind (arith, same), line)
      first f (Ok g) (error.Refused r) (same, line) = grind (arith, same)
      first f goals error.OutOfMemory reports = tt

      by_forgets : (known : Result (List (ℕ × Forgotten)) Fault) → forgets ≡ known
          → ReportsWithoutLine {A = List (ℕ × Forgotten) × List (ℕ × ModeSet)} (and_then known (λ f. and_then (goals_in (said_at f) value) (λ g. Ok (f, g)))) e
      by_forgets (Ok f) same = first f _ e (subst (λ said. ReportsWithoutLine (goals_in said value) e) (by_map f same) wrong)
      by_forgets (Err fault) same = absurd (subst (λ meaning. HasSaid (λ x. x) meaning forgotten) same forgot)
