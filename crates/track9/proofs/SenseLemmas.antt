-- A sense that tells what is known already changes nothing.
use Rattle.sets25.specs.Times.{BelowDay, just}
use Rattle.track9.proofs.PartLemmas.{put_same}
use Rattle.track9.proofs.Words.{agreeing, ap, cond_both, None, arith, contains-just, Entries, entries_of, part_remains, nat_tests, Option, Part, RegAudioIn, RegAudioOut, RegIn, Register, RegOut}
use Rattle.track9.specs.Working.Parts.{aside}
use Rattle.track9.proofs.Words.{put_settled, Rate, refl, settled, Some, sym, true, Whole, with_entries, ◌≡◌, ◌∙◌, ℕ}

-- where there is one time alone, which is read, all entries agree
all_agree : (t : ℕ) (es : Entries) → BelowDay es.rate es.times → es.times ≡ just t → agreeing (Some t) es ≡ es
all_agree t es below only = grind (arith, contains-just, nat_tests)

-- a part that has something in each factor stays
settled_same : (rate : Rate) (p : Part) → Whole rate p → part_remains p ≡ true → settled p ≡ p
settled_same rate p whole live = rw (live, (whole RegIn).0 ∙ live, (whole RegOut).0 ∙ live, (whole RegAudioIn).0 ∙ live, (whole RegAudioOut).0 ∙ live) refl

pub same_sensed : (rate : Rate) (r : Register) (time : Option ℕ) (t : ℕ) (p : Part) → Whole rate p → BelowDay (entries_of r p).rate (entries_of r p).times
    → time ≡ Some t → (entries_of r p).times ≡ just t → p ≡ put_settled r (aside p (agreeing time (entries_of r p))) p
same_sensed rate r time t p whole below read only = cond_both (part_remains p) (Some (agreeing time (entries_of r p))) None (λ o. p ≡ put_settled r o p) (λ live. rw read
    (sym (ap (λ es. settled (with_entries r es p)) (all_agree t (entries_of r p) below only) ∙ ap settled (put_same r p) ∙ settled_same rate p whole live))) (λ dead. refl)
