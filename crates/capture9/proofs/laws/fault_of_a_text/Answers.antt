-- What holds of every list of CSV records holds of those of a text.
use Rattle.capture9.proofs.Words.{default_config, List, records, strip_bom, ℕ}
use Rattle.capture9.proofs.LawLemmas.{of-fault}
use Rattle.capture9.proofs.laws.fault_of_a_text.Goals as goal

pub returns : goal.returns
returns c =
    let held = λ (limit : ℕ) (text : List ℕ). of-fault limit (records default_config (strip_bom text)) in
    record { of_text = λ limit text e same. (held limit text e same).0; place = λ limit text e same. (held limit text e same).1 }
