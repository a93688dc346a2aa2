use Rattle.run9.proofs.search.Search.put_stretch.Goals as goal

pub go_back_to-requires : goal.go_back_to-requires
go_back_to-requires c =
    rw c.requires ((c.in_ok-last.ensures.states c.in-Some.end).0 (rw c.in-Some.is at c.in_ok-end.ensures))
