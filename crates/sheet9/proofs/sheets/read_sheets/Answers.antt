use Rattle.sheet9.proofs.Words.{arith}
use Rattle.sheet9.proofs.SheetsLemmas.{as_many, deck_of_all, some_read}
use Rattle.sheet9.proofs.sheets.read_sheets.Goals as goal

pub taken_together-requires : goal.taken_together-requires
taken_together-requires c =
    let read = c.in_ok-all.ensures.said in
    omega (arith, as_many read.0 c.in_ok-all.all.items read.2, some_read c.args.texts.now read.0 read.1 c.requires)

pub returns-clause-deck : goal.returns-clause-deck
returns-clause-deck c =
    let read = c.in_ok-all.ensures.said in
    deck_of_all _ read.0 c.in_ok-all.all.items c.in_ok-said.said c.in_ok-into_deck.field-0 read.1 read.2 (some_read c.args.texts.now read.0 read.1 c.requires)
    (λ first rest are. c.in_ok-said.ensures first rest are) (λ sheet is. c.in_ok-into_deck.ensures sheet is)
