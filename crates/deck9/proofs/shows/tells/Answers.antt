use Rattle.deck9.proofs.Words.{given_reads, read_given, rules}
use Rattle.deck9.proofs.shows.tells.Goals as goal

pub returns-in-At : goal.returns-in-At
returns-in-At c = let h = c.eq.ensures in let k = c.time_at.ensures in rw c.in-At.is
    (search (rules, given_reads c.args.rate c.args.reply.now.bytes.items c.in-At.time, read_given c.args.rate c.args.reply.now.bytes.items c.in-At.time))
