use Rattle.track9.proofs.Words.{States, subst, HalvesKnow}
use Rattle.track9.proofs.states.States.known_entry.Goals as goal
use Rattle.track9.proofs.KnownLemmas.{entry_known}

pub returns-in-Some : goal.returns-in-Some
returns-in-Some g c =
    entry_known c.args.self.now c.args.register c.known-off.result c.known_on-on.result c.join_known-all.result c.in-Some.known c.requires.whole
    (subst (λ (v : States). HalvesKnow v.off c.args.register c.known-off.result) c.self.view_is c.known-off.ensures) c.known_on-on.ensures c.join_known-all.ensures
    c.in-Some.is
