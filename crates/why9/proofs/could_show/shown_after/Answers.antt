use Rattle.why9.proofs.ShowLemmas as show
use Rattle.track9.proofs.FollowLemmas.{keeps_ends}
use Rattle.why9.proofs.could_show.shown_after.Goals as goal

pub knowledge-requires : goal.knowledge-requires
knowledge-requires c = c.in_ok-drift.ensures.remains.0 (show.before_last c.args.profile.now c.args.exchanges.now c.follow.new.self c.requires.breaks
    (keeps_ends c.args.profile.now c.args.tracker.now _ c.follow.new.self c.requires.states c.requires.profile c.requires.going c.in_ok-follow.ensures))

pub returns : goal.returns
returns c =
    show.could_show c.args.profile.now c.args.exchanges.now c.follow.new.self c.drift.new.self c.knowledge.result c.shown.result c.requires.breaks
    (keeps_ends c.args.profile.now c.args.tracker.now _ c.follow.new.self c.requires.states c.requires.profile c.requires.going c.in_ok-follow.ensures)
    c.in_ok-drift.ensures.reached c.knowledge.ensures c.shown.ensures.ten c.shown.ensures.modes
