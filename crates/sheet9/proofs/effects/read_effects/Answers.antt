use Rattle.sheet9.proofs.Words.{refl}
use Rattle.std.specs.Prelude.{option_map}
use Rattle.toml.specs.View.{view}
use Rattle.sheet9.proofs.TableLemmas.{effects_fault, effects_mean}
use Rattle.sheet9.proofs.effects.read_effects.Goals as goal

pub returns-in-Ok-clause-ok : goal.returns-in-Ok-clause-ok
returns-in-Ok-clause-ok c =
    effects_mean _ (option_map (λ v. view v.now) c.args.goals) c.in_ok-forgets.forgets c.in_ok-forgets.ensures.ok _ refl c.in-Ok.ensures.ok

pub returns-in-Err-clause-err : goal.returns-in-Err-clause-err
returns-in-Err-clause-err c = effects_fault _ (option_map (λ v. view v.now) c.args.goals) c.in_ok-forgets.forgets c.in_ok-forgets.ensures.ok c.in-Err.error c.in-Err.ensures.err
