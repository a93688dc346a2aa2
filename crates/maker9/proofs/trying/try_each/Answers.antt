use Rattle.maker9.proofs.Telling.{unkept}
use Rattle.maker9.proofs.trying.try_each.Goals as goal

pub returns : goal.returns
returns g c = unkept c.args.scope c.args.profile (g.R.Read.remaining c.args.reader) (g.W.Write.contents c.args.writer.now)
