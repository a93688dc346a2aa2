use Rattle.sets25.proofs.Lemmas.{ap, contains-every_time, contains-just, contains-moved, image, image_from, image_to, Next, Prev, ◌∙◌}
use Rattle.std.specs.FinSet as set
use Rattle.sets25.proofs.laws.memberships.Goals as goal

pub returns : goal.returns
returns c = record {
  every_time = contains-every_time;
  just = contains-just;
  image = λ h s f. (image_from h s f, λ w. ap (set.contains (image h s)) w.2 ∙ image_to h s w.0 w.1);
  next = λ rate s f below. contains-moved rate Next s below f;
  prev = λ rate s f below. contains-moved rate Prev s below f;
}
