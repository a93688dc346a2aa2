-- The zeros do not show, and each byte is printed as printable ASCII.
use Rattle.capture9.proofs.Words.{take}
use Rattle.capture9.proofs.ShownLemmas.{prints, same-text}
use Rattle.capture9.proofs.laws.text_of_a_field.Goals as goal

pub returns : goal.returns
returns c = record { text = same-text; printable = λ field. prints (take field.len field.bytes) field.is_cut }
