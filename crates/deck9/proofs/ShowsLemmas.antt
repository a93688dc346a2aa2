-- What a reply shows.
use Rattle.deck9.proofs.Words.{Agrees, Block, Command, cond_both, is_own, Rate, sense_of, Shows, State, subst, sym, ◌≡◌}
use Rattle.deck9.specs.declared.sense.Sense.TheVariants as sense

-- a reply that would agree with the state if it were the command's own agrees with it
pub shows_asked : (rate : Rate) (s : State) (c : Command) (reply : Block) → Agrees rate (sense_of c) s reply → Shows rate s c reply
shows_asked rate s c reply agrees =
    cond_both (is_own c reply) (sense_of c) sense.Nothing (λ asked. Agrees rate asked s reply) (λ own. agrees) (λ other. tt)

-- a reply to a command that asks for nothing of the state shows nothing
pub shows_nothing : (rate : Rate) (s : State) (c : Command) (reply : Block) → sense_of c ≡ sense.Nothing → Shows rate s c reply
shows_nothing rate s c reply silent = shows_asked rate s c reply (subst (λ asked. Agrees rate asked s reply) (sym silent) tt)
