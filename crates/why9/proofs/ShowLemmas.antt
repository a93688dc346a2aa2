-- What the deck could show when it gave the last of some replies.
use Rattle.why9.proofs.Words.{[], ap, AreReached, arith, BreaksAtLast, CouldBe, CouldShow, Drift, Ends, Exchange, KeepsEnds, Profile, has, IsKnowledge}
use Rattle.why9.proofs.Words.{Knowledge, length, length-append, List, Mode, ModeSet, Possible, some_end, State, subst, sym, take, take-append_seam, Tracked, true}
use Rattle.why9.proofs.Words.{◌-◌, ◌<◌, ◌↔◌, ◌^◌, ◌∙◌, ◌∷◌, ◌≡◌}
use Rattle.track9.proofs.OneKnowledge.{knowledge_same}

-- all exchanges but the last
pub but_last : (profile : Profile) (es : List Exchange) (b : BreaksAtLast profile es) → take (length es - 1) es ≡ b.before
but_last profile es b =
    let number : length es - 1 ≡ length b.before = omega (arith, ap length b.is_split, length-append b.before (b.last ∷ [])) in
    ap (λ n. take n es) number ∙ ap (take (length b.before)) b.is_split ∙ take-append_seam b.before (b.last ∷ [])

-- there is a state before the last of them
pub before_last : (profile : Profile) (es : List Exchange) (t : Tracked) → BreaksAtLast profile es → KeepsEnds profile (take (length es - 1) es) t
    → (s : State) × Possible t.states s
before_last profile es t b f =
    let end = (some_end profile b.before).1 b.has_run in
    (end.0, (f.states end.0).1 (subst (λ l. Ends profile l end.0) (sym (but_last profile es b)) end.1))

-- what is then known, and which modes are shown
pub could_show : (profile : Profile) (es : List Exchange) (old new : Tracked) (k : Knowledge) (set : ModeSet) (b : BreaksAtLast profile es)
    → KeepsEnds profile (take (length es - 1) es) old → AreReached (Possible old.states) (Drift old.profile old.going) (Possible new.states)
    → IsKnowledge (Possible new.states) k → set.0 < 2 ^ 10 → ((m : Mode) → (has set.0 m ≡ true) ↔ ((s : State) × Possible new.states s × (s.shown ≡ m)))
    → CouldShow profile es k set
could_show profile es old new k set b f reached knows ten shows = record {
  ten = ten;
  before = b.before;
  last = b.last;
  split = b.is_split;
  knows = knowledge_same (Possible new.states) (CouldBe profile b.before) k same knows;
  shows = λ m. (λ t. let s = (shows m).0 t in (s.0, (same s.0).0 s.1, s.2), λ s. (shows m).1 (s.0, (same s.0).1 s.1, s.2));
}
  where
    same : (t : State) → Possible new.states t ↔ CouldBe profile b.before t
    same t =
        let follows = rw (but_last profile es b) at f in
        let goes = rw (follows.profile, follows.going) at reached in
        (λ p. let s = goes.0 t p in (s.0, (follows.states s.0).0 s.1, s.2), λ w. goes.1 w.0 t ((follows.states w.0).1 w.1) w.2)
