use Rattle.report9.proofs.Words.{append_assoc, IfOk-equal, rules, text_of_block}
use Rattle.report9.proofs.Rows.{hex_more}
use Rattle.report9.proofs.exchange_bytes.block_bytes.put_block.Goals as goal

pub returns : goal.returns
unfolding text_of_block
returns c = search (rules, IfOk-equal, append_assoc, hex_more)
