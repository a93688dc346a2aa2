use Rattle.sheet9.proofs.Words.{◌∙◌}
use Rattle.sheet9.specs.Sheets.{both_ways}
use Rattle.sheet9.proofs.SheetsLemmas.{said_as_is, said_in_both}
use Rattle.sheet9.proofs.said.Said.take.Goals as goal

pub returns : goal.returns
returns c = λ one more is_one is_more.
    let old = c.args.self.now in
    let other = c.args.other in record {
      forgets = said_as_is one.forgets more.forgets old.forgets other.forgets c.put_all.new.table c.in_ok-put_all.ensures is_one.forgets is_more.forgets;
      goals = said_as_is one.goals more.goals old.goals other.goals c.put_all-2.new.table c.in_ok-put_all-2.ensures is_one.goals is_more.goals;
      loses = said_as_is one.loses more.loses old.loses other.loses c.put_all-3.new.table c.in_ok-put_all-3.ensures is_one.loses is_more.loses;
      names = said_in_both (λ name. name.items) one.names more.names old.names other.names c.put_all-4.new.table c.in_ok-put_all-4.ensures is_one.names is_more.names;
      ways = c.with_ways-self.ensures ∙ (λ i. both_ways (is_one.ways i) (is_more.ways i));
      replies = said_in_both (λ forms. forms.items) one.replies more.replies old.replies other.replies c.put_all-5.new.table c.in_ok-put_all-5.ensures is_one.replies is_more.replies;
      runs = said_in_both (λ run. run.0) one.runs more.runs old.runs other.runs c.put_all-6.new.table c.in_ok-put_all-6.ensures is_one.runs is_more.runs;
    }
