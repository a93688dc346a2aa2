-- The line of a verdict, and that of the totals where the judging goes on after a break.
use Rattle.std.specs.Prelude.{ℕ, List, ◌++◌, codes}
use Rattle.std.specs.Fmt.{decimal}
use Rattle.block9.specs.Reason.{name_of, text_of}
use Rattle.report9.specs.declared.totals.Totals.{Totals}
use Rattle.report9.specs.declared.verdict.Verdict.{Verdict}
use Rattle.report9.specs.declared.verdict.Verdict.TheVariants.{Yes, No}

-- the line of a verdict, with its line feed
abbrev pub line_of : Verdict → List ℕ
line_of (Yes records exchanges tail) =
    codes "yes: records " ++ decimal records ++ codes ", exchanges " ++ decimal exchanges ++ codes ", open " ++ decimal tail ++ codes "\n"
line_of (No at reason) =
    codes "no at record " ++ decimal at ++ codes ": " ++ name_of reason ++ codes " " ++ text_of reason ++ codes "\n"

-- the line of the totals, with its line feed
abbrev pub line_of_totals : Totals → List ℕ
line_of_totals totals =
    codes "breaks " ++ decimal totals.breaks ++ codes ": records " ++ decimal totals.records ++ codes ", exchanges " ++ decimal totals.exchanges
    ++ codes ", passed over " ++ decimal totals.passed_over ++ codes ", open " ++ decimal totals.tail ++ codes "\n"
