use Rattle.deck9.proofs.LessLemmas.{goals_no_more}
use Rattle.deck9.proofs.laws.goals_lead_to_no_more.Goals as goal

pub returns : goal.returns
returns c = goals_no_more
