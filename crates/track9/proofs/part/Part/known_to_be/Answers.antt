use Rattle.track9.proofs.Words.{refl}
use Rattle.track9.proofs.part.Part.known_to_be.Goals as goal

pub returns : goal.returns
returns g c = rw (
  c.settle.ensures,
  c.of.ensures,
  c.known_modes.ensures,
  c.known_modes-2.ensures,
  c.in_ok-known_to_be.ensures,
  c.in_ok-known_to_be-2.ensures,
  c.in_ok-known_to_be-3.ensures,
  c.in_ok-known_to_be-4.ensures,
) refl
