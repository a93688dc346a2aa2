use Rattle.track9.proofs.Words.{RegAudioIn, RegAudioOut, RegIn, RegOut}
use Rattle.track9.proofs.states.member.known_state_in.Goals as goal
use Rattle.track9.proofs.BeforeLemmas.{if_none_so}
use Rattle.track9.proofs.StartLemmas.{no_entry_known}

pub returns-in_err-pick-clause-none : goal.returns-in_err-pick-clause-none
returns-in_err-pick-clause-none g c = if_none_so c.from_residual-in_err-pick.result (no_entry_known RegIn _ _ _ _ (rw c.entries.ensures at c.in_err-pick.ensures.none))

pub returns-in_err-pick-2-clause-none : goal.returns-in_err-pick-2-clause-none
returns-in_err-pick-2-clause-none g c = if_none_so c.from_residual-in_err-pick-2.result (no_entry_known RegOut _ _ _ _ (rw c.entries-2.ensures at c.in_err-pick-2.ensures.none))

pub returns-in_err-pick-3-clause-none : goal.returns-in_err-pick-3-clause-none
returns-in_err-pick-3-clause-none g c = if_none_so c.from_residual-in_err-pick-3.result (no_entry_known RegAudioIn _ _ _ _ (rw c.entries-3.ensures at c.in_err-pick-3.ensures.none))

pub returns-in_err-pick-4-clause-none : goal.returns-in_err-pick-4-clause-none
returns-in_err-pick-4-clause-none g c = if_none_so c.from_residual-in_err-pick-4.result (no_entry_known RegAudioOut _ _ _ _ (rw c.entries-4.ensures at c.in_err-pick-4.ensures.none))
