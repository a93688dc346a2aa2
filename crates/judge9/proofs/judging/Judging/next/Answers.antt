use Rattle.judge9.proofs.judging.Judging.next.Goals as goal
use Rattle.judge9.proofs.Words.{ap, Scope, sym, ◌∙◌}
use Rattle.std.proofs.Common.{rules}
use Rattle.judge9.proofs.Marking.{told_behind}
use Rattle.judge9.proofs.NextEvent.{first_moves, going_moves, moves_shows, next_goes, next_told, up_moves}
use Rattle.judge9.proofs.Taking.{first_arrives, going_arrives, up_arrives}

-- ---- a part goes on

pub returns-in-Going : goal.returns-in-Going
returns-in-Going g c =
    let moves = going_moves c.args.self.now c.next-came.new.self c.next-came.result c.in-Going.is c.next-came.ensures in
    let goes = next_goes c.args.self.now c.next-came.new.self c.tell.new.self c.next-came.result c.tell.result moves c.tell.ensures in
    record {
      told = λ scope profile rows h s. next_told c.args.self.now c.next-came.new.self c.tell.new.self c.next-came.result c.tell.result s
          (going_arrives (rw c.in-Going.is at s.at) c.next-came.ensures) moves c.tell.ensures;
      ready = goes.0;
      shows = goes.1;
      broke = goes.2;
      closer = goes.3;
      ended = search rules;
      over = search rules;
      same = search rules;
    }

-- ---- nothing was judged yet

pub tell-requires-in-Fresh : goal.tell-requires-in-Fresh
tell-requires-in-Fresh g c =
    let (limit, terms, fresh) = rw c.in-Fresh.is at c.requires in
    record {
      shows = moves_shows c.args.self.now c.first-came.new.self c.first-came.result
          (first_moves c.args.self.now c.first-came.new.self terms c.first-came.result c.in-Fresh.is (c.first-came.ensures limit terms fresh));
    }

pub returns-in-Fresh : goal.returns-in-Fresh
returns-in-Fresh g c =
    let (limit, terms, fresh) = rw c.in-Fresh.is at c.requires in
    let moves = first_moves c.args.self.now c.first-came.new.self terms c.first-came.result c.in-Fresh.is (c.first-came.ensures limit terms fresh) in
    let goes = next_goes c.args.self.now c.first-came.new.self c.tell-in-Fresh.new.self c.first-came.result c.tell-in-Fresh.result moves c.tell-in-Fresh.ensures in
    record {
      told = λ scope profile rows h s.
          let at = rw c.in-Fresh.is at s.at in
          next_told c.args.self.now c.first-came.new.self c.tell-in-Fresh.new.self c.first-came.result c.tell-in-Fresh.result s
          (rw at.2 (first_arrives scope.beginning rows _ _ _ at.0 at.1 (rw s.same_scope at (c.first-came.ensures _ _ at.0)))) moves c.tell-in-Fresh.ensures;
      ready = goes.0;
      shows = goes.1;
      broke = goes.2;
      closer = goes.3;
      ended = search rules;
      over = search rules;
      same = search rules;
    }

-- ---- a late reply was told, and its break comes

pub returns-in-LateTold-clause-told : goal.returns-in-LateTold-clause-told
returns-in-LateTold-clause-told g c = λ scope profile rows h s.
    let e = c.mark_break.ensures in
    rw e.told.0 (told_behind c.mark_break.new.self c.in-LateTold.broken s c.in-LateTold.is e.told.1 e.same.0 e.same.1 e.same.2 (e.breaks, e.counts.0, e.counts.1))

-- ---- a part broke

pub tell-requires-in-WholeCapture : goal.tell-requires-in-WholeCapture
tell-requires-in-WholeCapture g c =
    record {
      shows = moves_shows c.args.self.now c.take_up-came.new.self c.take_up-came.result
          (up_moves c.args.self.now c.take_up-came.new.self _ c.take_up-came.result c.in-Broken.broken c.in-Broken.is (rw c.in-Broken.is at c.requires) c.take_up-came.ensures);
    }

pub returns-in-WholeCapture : goal.returns-in-WholeCapture
returns-in-WholeCapture g c =
    let moves = up_moves c.args.self.now c.take_up-came.new.self _ c.take_up-came.result c.in-Broken.broken c.in-Broken.is (rw c.in-Broken.is at c.requires) c.take_up-came.ensures in
    let goes = next_goes c.args.self.now c.take_up-came.new.self c.tell-in-WholeCapture.new.self c.take_up-came.result c.tell-in-WholeCapture.result moves c.tell-in-WholeCapture.ensures in
    record {
      told = λ scope profile rows h s.
          let whole = ap (λ (x : Scope). x.extent) (sym s.same_scope) ∙ c.in-WholeCapture.is in
          next_told c.args.self.now c.take_up-came.new.self c.tell-in-WholeCapture.new.self c.take_up-came.result c.tell-in-WholeCapture.result s
          (up_arrives (rw c.in-Broken.is at s.at) c.take_up-came.result (rw whole (rw s.same_profile at c.take_up-came.ensures))) moves c.tell-in-WholeCapture.ensures;
      ready = goes.0;
      shows = goes.1;
      broke = goes.2;
      closer = goes.3;
      ended = search rules;
      over = search rules;
      same = search rules;
    }
