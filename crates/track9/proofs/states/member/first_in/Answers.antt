use Rattle.track9.proofs.Words.{RegAudioIn, RegAudioOut, RegIn, RegOut, ◌∙◌}
use Rattle.track9.proofs.states.member.first_in.Goals as goal
use Rattle.track9.proofs.BeforeLemmas.{some_goal, some_shown}

pub first-goal-requires : goal.first-goal-requires
first-goal-requires g c = rw (c.goals.ensures, c.pairs-pairs.ensures) (some_goal c.args.part.now.pairs c.requires.live)

pub first-requires : goal.first-requires
first-requires g c = rw c.shown.ensures (some_shown c.pairs-pairs.result.0 c.first-goal.result (rw c.goals.ensures at c.first-goal.ensures))

pub first-requires-2 : goal.first-requires-2
first-requires-2 g c = rw c.entries.ensures ((c.requires.whole RegIn).0 ∙ c.requires.live)

pub first-requires-3 : goal.first-requires-3
first-requires-3 g c = rw c.entries-2.ensures ((c.requires.whole RegOut).0 ∙ c.requires.live)

pub first-requires-4 : goal.first-requires-4
first-requires-4 g c = rw c.entries-3.ensures ((c.requires.whole RegAudioIn).0 ∙ c.requires.live)

pub first-requires-5 : goal.first-requires-5
first-requires-5 g c = rw c.entries-4.ensures ((c.requires.whole RegAudioOut).0 ∙ c.requires.live)
