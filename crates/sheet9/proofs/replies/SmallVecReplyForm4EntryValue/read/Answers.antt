use Rattle.sheet9.proofs.Words.{sym}
use Rattle.sheet9.proofs.ReplyLemmas.{forms_of_some}
use Rattle.sheet9.proofs.replies.SmallVecReplyForm4EntryValue.read.Goals as goal

pub returns-in_default-as_slice-clause-ok : goal.returns-in_default-as_slice-clause-ok
returns-in_default-as_slice-clause-ok c =
    rw (sym c.in-Some.ensures, sym c.as_slice.ensures.value, forms_of_some c.args.key.now c.as_slice.result.now c.in_default-as_slice.len_at_least)
    c.forms_in.ensures.ok
