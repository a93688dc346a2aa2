-- Where the time is known already, the entries stay as they are.
use Rattle.track9.proofs.Words.{ap, Entries, sym, ◌∙◌}
use Rattle.track9.proofs.SenseLemmas.{same_sensed}
use Rattle.track9.proofs.part.Part.knows.Goals as goal

pub returns-else-not-remains-clause-known : goal.returns-else-not-remains-clause-known
returns-else-not-remains-clause-known g c = λ knows.
    let (t, read, only) = c.has_only.ensures.0 knows in
    sym (same_sensed c.requires.0 c.args.register _ t _ c.requires.1 (c.below_day.ensures c.args.register) read (sym (ap (λ (es : Entries). es.times) c.entries.ensures) ∙ only))
