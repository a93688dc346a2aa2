-- the terms so far were answered, of the same capture and for the same deck
use Rattle.std.proofs.Common.{None, take, ◌≡◌}
use Rattle.asking9.specs.Asking.{AreAnswers}
use Rattle.asking9.proofs.asking.Asking.ask_with_each.Given as goal

abbrev pub invariant-loop-terms : goal.invariant-loop-terms
invariant-loop-terms g l = record {
  plain : l.self.plain.deck ≡ None;
  deck : l.self.with_sheet.deck ≡ l.fn.self.with_sheet.deck;
  scope : l.self.scope ≡ l.fn.self.scope;
  text : l.self.text ≡ l.fn.self.text;
  are : AreAnswers l.fn.self.scope l.fn.self.with_sheet.deck l.fn.self.text.now (take l.terms-index l.all) l.answers.items;
}
