use Rattle.sheet9.proofs.Words.{arith, length, refl, suc, sym, ◌+◌, ◌≡◌, ◌≤◌}
use Rattle.std.proofs.Common.{subst, take}
use Rattle.std.proofs.lemmas.List.{take_all}
use Rattle.sheet9.specs.Sheets.{EachAgrees}
use Rattle.sheet9.specs.Working.{IsSaid}
use Rattle.sheet9.proofs.SheetsLemmas.{agree_more, as_many, said_there}
use Rattle.sheet9.proofs.sheets.first_clash.Goals as goal

pub loop-earlier-preserved : goal.loop-earlier-preserved
loop-earlier-preserved c = (
  omega (arith, c.loop-earlier.invariant.0),
  λ sheets one said is.
      let there = said_there sheets c.args.all.now c.loop-earlier.earlier-index c.earlier-item.result said c.loop-earlier-test.true in
      let is_there = subst (IsSaid there.0) (sym c.earlier-item.is) there.2 in
      let next : suc c.loop-earlier.earlier-index ≡ c.loop-earlier.earlier-index + 1 = omega arith in
      subst (λ n. EachAgrees (take n sheets) one) next
      (agree_more sheets c.loop-earlier.earlier-index there.0 one there.1 (c.loop-earlier.invariant.1 sheets one said is) (c.in_default.ensures.none there.0 one is_there is refl)),
)

pub returns-in-Some-clause-some : goal.returns-in-Some-clause-some
returns-in-Some-clause-some c = λ sheets one said is.
    let there = said_there sheets c.args.all.now c.loop-earlier.earlier-index c.earlier-item.result said c.loop-earlier-test.true in
    let is_there = subst (IsSaid there.0) (sym c.earlier-item.is) there.2 in
    rw c.loop-earlier.invariant.0 (record {
      before = c.loop-earlier.invariant.1 sheets one said is;
      sheet = there.0;
      is_at = there.1;
      differ = c.in-Some.ensures.some there.0 one is_there is;
    })

pub returns-clause-none : goal.returns-clause-none
returns-clause-none c = λ sheets one said is none.
    let passed : length sheets ≤ c.loop-earlier.earlier-index = omega (arith, as_many sheets c.args.all.now said, c.loop-earlier-test.false) in
    subst (λ s. EachAgrees s one) (take_all c.loop-earlier.earlier-index sheets passed) (c.loop-earlier.invariant.1 sheets one said is)
