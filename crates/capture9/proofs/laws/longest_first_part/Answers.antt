use Rattle.capture9.proofs.Words.{default_config, records, strip_bom}
use Rattle.capture9.proofs.RuleLemmas.{first-part}
use Rattle.capture9.proofs.laws.longest_first_part.Goals as goal

pub returns : goal.returns
returns c = λ limit text header rows same good. first-part limit header rows (records default_config (strip_bom text)) same good
