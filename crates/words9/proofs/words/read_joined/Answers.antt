use Rattle.std.proofs.Common.{rules}
use Rattle.clap.specs.Words.{found_of, rows_of}
use Rattle.words9.proofs.words.read_joined.Goals as goal

pub returns-clause-task : goal.returns-clause-task
returns-clause-task c = (
  c.rate_names.result,
  c.rate_names.ensures,
  record {
    verb = c.in-Some-verb_of.verb;
    rows = rows_of (found_of c.in-Some.found.now);
    takes = search rules;
    asked = search rules;
    stretch = search rules;
    drawing = search rules;
    file = search rules;
    rate = search rules;
    hands = search rules;
    sheets = search rules;
    export = c.in-Ok-export_of.ensures;
  },
)
