use Rattle.sheet9.proofs.Words.{arith, nat_tests, true, ◌≡◌}
use lib.Pointwise.{pointwise, pointwise_decides}
use Rattle.block9.specs.contracts.replies.ReplyFormPartialEq.TheImpl.{eq-value}
use Rattle.block9.specs.declared.replies.ReplyForm.{ReplyForm}
use Rattle.sheet9.proofs.replies.SmallVecReplyForm4EntryValue.is_same.Goals as goal

same_form : (x y : ReplyForm) → (eq-value.it x y ≡ true → x ≡ y) × (x ≡ y → eq-value.it x y ≡ true)
same_form x y = (λ e. grind (arith, nat_tests, e), λ e. grind (arith, nat_tests, e))

pub returns : goal.returns
returns c =
    let both : (pointwise eq-value.it c.args.self.now.items c.args.other.now.items ≡ true → c.args.self.now.items ≡ c.args.other.now.items) × (c.args.self.now.items ≡ c.args.other.now.items → pointwise eq-value.it c.args.self.now.items c.args.other.now.items ≡ true) =
    pointwise_decides same_form c.args.self.now.items c.args.other.now.items in
    rw (c.eq.ensures, c.as_slice.ensures, c.as_slice-2.ensures) both
