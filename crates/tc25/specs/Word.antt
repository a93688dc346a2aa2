-- What a rate is called on a command line.
use Rattle.std.specs.Prelude.{ℕ, List, codes}
use Rattle.tc25.specs.declared.rate.Rate.{Rate}
use Rattle.tc25.specs.declared.rate.Rate.TheVariants as rate

abbrev pub word_of : Rate → List ℕ
word_of rate.Fps24 = codes "24"
word_of rate.Fps25 = codes "25"
word_of rate.Fps30 = codes "30"
word_of rate.DropFrame = codes "29.97df"
