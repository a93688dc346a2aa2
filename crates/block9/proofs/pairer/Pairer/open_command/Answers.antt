use Rattle.block9.proofs.FeedLemmas.{command_held, none_held, open_told}
use Rattle.block9.proofs.Words.{None, refl, Some}
use Rattle.block9.proofs.pairer.Pairer.open_command.Goals as goal

pub returns-in-Controller : goal.returns-in-Controller
returns-in-Controller c = open_told c.self.inside.rules None _ _ c.self.view_is refl (none_held c.self.inside.rules _ _ _ c.self.invariant c.in-Controller.is)

pub returns-in-Deck : goal.returns-in-Deck
returns-in-Deck c = open_told c.self.inside.rules (Some _) _ _ c.self.view_is refl (command_held c.self.inside.rules _ _ _ c.self.invariant c.in-Deck.is)
