use Rattle.deck9.proofs.LawLemmas.{ignored_is_listed}
use Rattle.deck9.proofs.laws.local_ignores_listed_commands.Goals as goal

pub returns : goal.returns
returns c = ignored_is_listed
