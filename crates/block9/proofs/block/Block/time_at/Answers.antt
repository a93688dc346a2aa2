-- Lists of another length than four are no time.
use Rattle.block9.proofs.Words.{ap, arith, length, List, None, time_of, ℕ, ◌∙◌, ◌≡◌, ◌≢◌}
use Rattle.tc25.specs.declared.rate.Rate.{Rate}
use Rattle.block9.proofs.block.Block.time_at.Goals as goal

no_time : (rate : Rate) (bytes : List ℕ) → length bytes ≢ 4 → None ≡ time_of rate bytes
unfolding time_of
no_time rate bytes h = grind arith

pub returns-in_err-bytes : goal.returns-in_err-bytes
returns-in_err-bytes c =
    c.from_residual.ensures ∙ no_time c.args.rate c.args.self.now.bytes.items (λ four. c.in_err-bytes.ensures.cases (ap length c.as_slice.ensures.value ∙ four))
