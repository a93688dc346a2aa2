use Rattle.std.proofs.Common.{true, ◌≡◌}
use Rattle.asking9.proofs.WithHands.{with_hands}
use Rattle.asking9.proofs.asking.yes_with_hands.Goals as goal

pub returns-clause-checked : goal.returns-clause-checked
returns-clause-checked c scope deck text checked =
    let before = rw c.in_ok-before.was at checked in
    let (ended, is) = c.in_ok-yes.ensures in
    let adds : c.adds_hands_to.result ≡ true = cc c.if-not-adds_hands_to.false in
    let (none, added) = c.adds_hands_to.ensures.0 adds in
    with_hands scope deck text c.in_ok-before.before.now.terms c.args.terms c.in_ok-yes.yes none added (rw ended at is) (rw ended at before)
