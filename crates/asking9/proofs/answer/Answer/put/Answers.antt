use Rattle.std.proofs.Common.{codes}
use Rattle.std.proofs.lemmas.Result.{on_ok_weaker}
use Rattle.asking9.specs.Asking.{said_of, words_of}
use Rattle.asking9.proofs.Answering.{three_pieces}
use Rattle.asking9.proofs.answer.Answer.put.Goals as goal

pub returns : goal.returns
returns c =
    on_ok_weaker c.put_said.result (λ last. three_pieces c.args.text.now.items (words_of c.args.self.now.terms) (codes ": ")
    (said_of c.args.self.now.ended) _ _ _ c.in_ok-put.ensures c.in_ok-put_text.ensures last) c.put_said.ensures
