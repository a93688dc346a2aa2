use Rattle.convert9.proofs.Spelling.{taken-read}
use Rattle.convert9.proofs.laws.what_is_written_is_a_capture.Goals as goal

pub returns : goal.returns
returns c = taken-read
