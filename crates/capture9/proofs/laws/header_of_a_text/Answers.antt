use Rattle.capture9.proofs.Words.{default_config, records, strip_bom}
use Rattle.capture9.proofs.LawLemmas.{has-header}
use Rattle.capture9.proofs.laws.header_of_a_text.Goals as goal

pub returns : goal.returns
returns c = λ limit text. has-header limit (records default_config (strip_bom text))
