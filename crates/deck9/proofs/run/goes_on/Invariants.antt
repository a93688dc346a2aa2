use Rattle.deck9.proofs.Words.{iter_rest, zip_first, zip_second}
use Rattle.deck9.proofs.RunSearch.{RunsOn}
use Rattle.deck9.proofs.run.goes_on.Given as goal

-- what is asked of all exchanges is asked of those that are left, from the state before them
abbrev pub invariant-loop-exchange : goal.invariant-loop-exchange
invariant-loop-exchange l = RunsOn l.profile l.fn.going l.first l.exchanges l.states l.going l.before (iter_rest (zip_first l.exchange-iterator))
    (iter_rest (zip_second l.exchange-iterator))
