use Rattle.sheet9.proofs.Words.{refl, sym}
use Rattle.sheet9.proofs.TableLemmas.{tables_mean}
use Rattle.sheet9.proofs.said.Said.read.Goals as goal

pub returns-clause-ok : goal.returns-clause-ok
returns-clause-ok c =
    rw (c.in_ok-check_keys.ensures.ok, sym c.value_at.ensures, sym c.value_at-2.ensures, sym c.value_at-3.ensures, sym c.value_at-4.ensures, sym c.value_at-5.ensures, sym c.value_at-6.ensures, sym c.value_at-7.ensures)
    (tables_mean _ _ _ _ _ _ c.in_ok-effects.effects _ refl refl c.in_ok-effects.ensures.ok c.in_ok-read_table.ensures.ok c.in_ok-read_table-2.ensures.ok c.in_ok-read_passes.ensures.ok c.in_ok-read_table-3.ensures.ok c.in_ok-read_table-4.ensures.ok)
