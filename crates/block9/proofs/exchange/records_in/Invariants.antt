use Rattle.block9.proofs.Words.{drop, records_in, ◌*◌, ◌+◌, ◌≡◌, ◌≤◌}
use Rattle.block9.proofs.exchange.records_in.Given as goal

-- what was counted, with what is still to come, is the whole
abbrev pub invariant-loop-exchange : goal.invariant-loop-exchange
invariant-loop-exchange l = record {
  few : l.records ≤ 36 * l.exchange-index;
  counted : l.records + records_in (drop l.exchange-index l.exchanges) ≡ records_in l.exchanges;
}
