-- How the values are stored that models show: from the codes of the types in them.
use Rattle.std.specs.Coded.{Coded, coded_ℕ}
use Rattle.std.specs.FinSet as set
use Rattle.std.specs.Ordering.{nat_cmp}
use Rattle.sets25.specs.Times.{Times}
use Rattle.deck9.specs.Working.Codes.{deck_codes}

abbrev pub times_code : Coded Times
times_code = set.code {R = nat_cmp} coded_ℕ

pub ruleset stored = (deck_codes, times_code)
