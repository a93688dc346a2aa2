-- The same refusal again.
use Rattle.capture9.proofs.Words.{unread_records}
use Rattle.capture9.proofs.RecordsLemmas.{refuses-again}
use Rattle.capture9.proofs.records.Records.enter_rows.Goals as goal

pub returns-in-Refused-clause-refused : goal.returns-in-Refused-clause-refused
returns-in-Refused-clause-refused g c =
    rw (← c.self.view_is) (refuses-again _ _ _ _ _ (unread_records g.R.Read.remaining c.self.inside.reader) c.in-Refused.error c.in-Refused.is
    (c.self.invariant.refused _ c.in-Refused.is))
