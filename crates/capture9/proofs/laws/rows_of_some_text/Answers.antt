use Rattle.capture9.proofs.Words.{default_config, records, strip_bom}
use Rattle.capture9.proofs.LawLemmas.{can-be}
use Rattle.capture9.proofs.TextLemmas.{some-text}
use Rattle.capture9.proofs.laws.rows_of_some_text.Goals as goal

pub returns : goal.returns
returns c = record { each_text = λ limit text. can-be limit (records default_config (strip_bom text)); some_text = some-text }
