use Rattle.maker9.proofs.Telling.{untold}
use Rattle.maker9.proofs.trying.tell_answers.Goals as goal

pub returns-in-Err : goal.returns-in-Err
returns-in-Err g c = untold c.args.answers.now (g.W.Write.contents c.args.writer.now)
