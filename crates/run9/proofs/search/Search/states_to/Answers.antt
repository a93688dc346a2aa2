use Rattle.run9.proofs.search.Search.states_to.Goals as goal
use Rattle.run9.proofs.WayBackSteps.{back_run}
use Rattle.run9.proofs.Words.{follows_ends}

pub go_back_to-found-requires : goal.go_back_to-found-requires
go_back_to-found-requires c =
    let follows = follows_ends c.args.self.now.profile.now c.in_ok-first.first c.args.exchanges.now c.args.end.now c.in_ok-first.ensures.states c.in_ok-first.ensures.profile c.in_ok-first.ensures.going c.requires.keeps in
    rw c.requires.lasting ((follows.states c.in-Some.last).0 c.in-Some.ensures.some)

pub returns : goal.returns
returns c =
    let back = rw (c.requires.lasting, c.new-states.ensures.items) at c.in-Ok.ensures in
    rw c.reverse.ensures.items
    (back_run c.args.self.now.profile.now c.in_ok-first.first c.args.exchanges.now c.in-Some.last c.in-Ok.field-0 _ c.in_ok-first.ensures.states c.in_ok-first.ensures.profile c.in_ok-first.ensures.going back)
