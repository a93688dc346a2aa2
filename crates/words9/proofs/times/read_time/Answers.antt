use Rattle.std.proofs.Common.{◌∙◌, add-zero, lit<, sym}
use Rattle.std.proofs.lemmas.Str.Pattern.{split_parts}
use Rattle.words9.proofs.ValueLemmas.{microseconds-none, time_of-one, time_of-two}
use Rattle.words9.proofs.times.read_time.Goals as goal

pub returns-in_err-seconds-in-Some : goal.returns-in_err-seconds-in-Some
returns-in_err-seconds-in-Some c =
    let cut = rw c.in-Some.is at (split_parts 46 c.args.word.now c.split_once.result c.split_once.ensures.cases (lit< tt)) in
    let time = time_of-two c.args.word.now c.in-Some.whole.now c.in-Some.decimals.now cut.0 cut.1 in
    c.from_residual.ensures ∙ (rw (sym c.read_seconds.ensures.seconds ∙ c.in_err-seconds-in-Some.was) at time)

pub returns-in_err-read_decimals-in-Some : goal.returns-in_err-read_decimals-in-Some
returns-in_err-read_decimals-in-Some c =
    let cut = rw c.in-Some.is at (split_parts 46 c.args.word.now c.split_once.result c.split_once.ensures.cases (lit< tt)) in
    let time = time_of-two c.args.word.now c.in-Some.whole.now c.in-Some.decimals.now cut.0 cut.1 in
    c.from_residual-in_err-read_decimals-in-Some.ensures
    ∙ (rw (sym c.read_decimals.ensures.number ∙ c.in_err-read_decimals-in-Some.was, microseconds-none) at time)

pub returns-in_err-read_seconds-in-None : goal.returns-in_err-read_seconds-in-None
returns-in_err-read_seconds-in-None c =
    let free = rw c.in-None.is at (split_parts 46 c.args.word.now c.split_once.result c.split_once.ensures.cases (lit< tt)) in
    c.from_residual-in_err-read_seconds-in-None.ensures
    ∙ (rw (sym c.read_seconds-in-None.ensures.seconds ∙ c.in_err-read_seconds-in-None.was) at (time_of-one c.args.word.now free))

pub returns-in_ok-read_decimals-in-Some : goal.returns-in_ok-read_decimals-in-Some
returns-in_ok-read_decimals-in-Some c =
    let cut = rw c.in-Some.is at (split_parts 46 c.args.word.now c.split_once.result c.split_once.ensures.cases (lit< tt)) in
    let time = time_of-two c.args.word.now c.in-Some.whole.now c.in-Some.decimals.now cut.0 cut.1 in
    (rw (sym c.read_seconds.ensures.seconds ∙ c.in_ok-seconds-in-Some.was, sym c.read_decimals.ensures.number ∙ c.in_ok-read_decimals-in-Some.was) at time)

pub returns-in_ok-read_seconds-in-None : goal.returns-in_ok-read_seconds-in-None
returns-in_ok-read_seconds-in-None c =
    let free = rw c.in-None.is at (split_parts 46 c.args.word.now c.split_once.result c.split_once.ensures.cases (lit< tt)) in
    (rw (sym c.read_seconds-in-None.ensures.seconds ∙ c.in_ok-read_seconds-in-None.was, add-zero) at (time_of-one c.args.word.now free))
