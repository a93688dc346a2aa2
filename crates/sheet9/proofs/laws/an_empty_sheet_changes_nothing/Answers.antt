use Rattle.sheet9.proofs.EmptyLemmas.{none_mapped, same_ends, takes_fitting}
use Rattle.sheet9.proofs.laws.an_empty_sheet_changes_nothing.Goals as goal

pub returns-clause-ends : goal.returns-clause-ends
returns-clause-ends c = λ text p es t nothing. rw nothing (λ deck of_sheet. same_ends deck p es t of_sheet)

pub returns-clause-replies : goal.returns-clause-replies
returns-clause-replies c = λ text block c reply nothing. rw nothing (λ deck of_sheet. takes_fitting deck.replies block c reply (λ bytes. none_mapped _ _ (of_sheet.replies bytes)))

pub returns-clause-names : goal.returns-clause-names
returns-clause-names c = λ text head nothing. rw nothing (λ deck of_sheet. none_mapped _ _ (of_sheet.names head))
