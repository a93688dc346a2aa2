use Rattle.block9.proofs.Words.{arith, length, ◌+◌, ◌*◌}
use Rattle.block9.proofs.SpellingLemmas.{sum_from}
use Rattle.block9.proofs.block.Block.checksum.Goals as goal

pub returns : goal.returns
returns c =
    let body = sum_from (0 + (16 * c.args.self.now.group + length c.args.self.now.bytes.items) + c.args.self.now.code) c.args.self.now.bytes.items in
    let rest = c.sum_of.ensures in
    grind arith
