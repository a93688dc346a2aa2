-- The last mark is written back with the tracker that went on.
use Rattle.run9.proofs.Words.{ap, ◌∙◌, ◌≡◌}
use Rattle.run9.proofs.WayBackSteps.{last_got, last_set}
use Rattle.std.proofs.lemmas.Result.{on_ok_weaker}
use Rattle.run9.proofs.way_back.go_on.Goals as goal

pub returns : goal.returns
returns c = λ before m is.
    let marked : c.in-Some.mark.now ≡ m = rw (c.args.marks.now.ok.0, is) at c.in-Some.ensures.item.1 ∙ last_got before m _ in
    on_ok_weaker c.follow_as.result (λ follows. record {
      after = record { place = c.in-Some.mark.now.place; tracker = c.follow_as.new.self };
      same = rw (c.args.marks.now.ok.0, is) (last_set before m _);
      place = ap (λ n. n.place) marked;
      follows = rw marked at follows;
    }) c.follow_as.ensures
