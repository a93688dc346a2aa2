-- Runs of the deck, and the states that a tracker keeps, from one exchange to the next.
use Rattle.judge9.proofs.Words.{[], AreReached, ends_more, ends_none, Exchange, Goes, Profile, HasRun, KeepsEnds, List, Possible, some_end, State, Tracked}
use Rattle.judge9.proofs.Words.{goes_on, on_at_first, sym, true, ◌++◌, ◌↔◌, ◌∙◌, ◌∷◌, ◌≡◌}
use Rattle.track9.proofs.FollowLemmas.{left_more}
use Rattle.track9.specs.declared.following.Lasting.TheVariants.{UntilEnded}
use Rattle.deck9.specs.State.{IsFirst}

-- ---- runs

-- a run of exchanges is one of those before the last
pub run_less : (profile : Profile) (es : List Exchange) (e : Exchange) → HasRun profile (es ++ e ∷ []) → HasRun profile es
run_less profile es e r =
    let last = (some_end profile (es ++ e ∷ [])).1 r in
    let before = (ends_more profile es e).0 last.0 last.1 in
    (some_end profile es).0 (before.0, before.1)

-- ---- a tracker that follows

pub follows-start : (profile : Profile) (t : Tracked) → ((s : State) → Possible t.states s ↔ IsFirst profile s) → t.profile ≡ profile
    → t.going ≡ on_at_first profile.deck → KeepsEnds profile [] t
follows-start profile t states same all = record {
  states = λ s. (λ p. (ends_none profile s).1 ((states s).0 p), λ e. (states s).1 ((ends_none profile s).0 e));
  profile = same;
  going = all;
}

pub follows-more : (profile : Profile) (es : List Exchange) (e : Exchange) (old new : Tracked) → KeepsEnds profile es old
    → AreReached (Possible old.states) (Goes old.profile old.going e) (Possible new.states) → new.profile ≡ old.profile → new.going ≡ goes_on old.profile true e old.going
    → KeepsEnds profile (es ++ e ∷ []) new
follows-more profile es e old new f reached kept goes =
    let same = rw (f.profile, f.going) at reached in record {
      states = λ t. (
        λ p. let s = same.0 t p in (ends_more profile es e).1 s.0 t ((f.states s.0).0 s.1) s.2,
        λ p. let s = (ends_more profile es e).0 t p in
            same.1 s.0 t ((f.states s.0).1 s.1) s.2,
      );
      profile = kept ∙ f.profile;
      going = (rw (f.profile, f.going) at goes) ∙ sym (left_more UntilEnded profile (on_at_first profile.deck) es e);
    }
