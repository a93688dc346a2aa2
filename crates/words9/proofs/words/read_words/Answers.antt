use Rattle.words9.proofs.words.read_words.Goals as goal

pub returns-in-Ok-clause-usage : goal.returns-in-Ok-clause-usage
returns-in-Ok-clause-usage c = (rw (c.as_slice.ensures.value, c.in-Ok.ensures) at c.read_joined.ensures.usage)
