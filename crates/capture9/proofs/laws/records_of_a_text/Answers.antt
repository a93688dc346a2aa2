use Rattle.capture9.proofs.Words.{default_config, List, records, strip_bom, ℕ}
use Rattle.capture9.proofs.LawLemmas.{can-be}
use Rattle.capture9.proofs.laws.records_of_a_text.Goals as goal

pub returns : goal.returns
returns c =
    let held = λ (limit : ℕ) (text : List ℕ). can-be limit (records default_config (strip_bom text)) in
    record { within = λ limit text. (held limit text).within; in_order = λ limit text. (held limit text).in_order; in_range = λ limit text. (held limit text).in_range }
