use Rattle.report9.proofs.Words.{append_assoc, IfOk-equal, rules, words_of}
use Rattle.report9.proofs.exchange_bytes.put_words.Goals as goal

pub returns : goal.returns
unfolding words_of
returns c = search (rules, IfOk-equal, append_assoc)
