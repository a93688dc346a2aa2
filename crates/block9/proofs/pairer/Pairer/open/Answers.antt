use Rattle.block9.proofs.FeedLemmas.{command_open, open_after_told, reply_open}
use Rattle.block9.proofs.Words.{refl, sym, ◌∙◌}
use Rattle.block9.proofs.pairer.Pairer.open.Goals as goal

pub returns-in-AfterCommand : goal.returns-in-AfterCommand
returns-in-AfterCommand c =
    rw c.as_slice-tail.ensures (open_after_told c.self.inside.rules _ _ _ c.self.view_is refl
    (command_open c.self.inside.rules _ _ _ c.self.invariant (sym c.place.ensures ∙ c.in-AfterCommand.is)))

pub returns-in-InReply : goal.returns-in-InReply
returns-in-InReply c =
    rw (c.block_len-in-InReply.ensures, c.block_len-in-InReply-2.ensures, c.reply_in-reply.ensures, c.as_slice-tail.ensures) (open_after_told c.self.inside.rules _ _ _ c.self.view_is refl
    (reply_open c.self.inside.rules _ _ _ c.self.invariant (sym c.place.ensures ∙ c.in-InReply.is)))
