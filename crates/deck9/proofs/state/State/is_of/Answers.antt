-- Each register is one of the four.
use Rattle.deck9.proofs.Words.{arith, RegAudioIn, RegAudioOut, RegIn, RegOut}
use Rattle.deck9.proofs.state.State.is_of.Goals as goal

pub returns-then-is_edit_of_day : goal.returns-then-is_edit_of_day
returns-then-is_edit_of_day c = (λ is r. grind arith, λ valid. grind (arith, valid RegIn, valid RegOut, valid RegAudioIn, valid RegAudioOut))

pub returns-else-is_edit_of_day : goal.returns-else-is_edit_of_day
returns-else-is_edit_of_day c = (λ is r. grind arith, λ valid. grind (arith, valid RegIn, valid RegOut, valid RegAudioIn, valid RegAudioOut))
