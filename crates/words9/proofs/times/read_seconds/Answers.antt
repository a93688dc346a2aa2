use Rattle.std.proofs.Common.{◌∙◌, lit<}
use Rattle.std.proofs.lemmas.Str.Pattern.{split_parts}
use Rattle.words9.proofs.ValueLemmas.{seconds_of-one, seconds_of-two, seconds_of-three}
use Rattle.words9.proofs.times.read_seconds.Goals as goal

pub returns-in_default-clause-seconds : goal.returns-in_default-clause-seconds
returns-in_default-clause-seconds c =
    let free = rw c.in_default.is at (split_parts 58 c.args.word.now c.split_once.result c.split_once.ensures.cases (lit< tt)) in
    c.read_whole.ensures.number ∙ seconds_of-one c.args.word.now free

pub returns-in_err-minutes-clause-seconds : goal.returns-in_err-minutes-clause-seconds
returns-in_err-minutes-clause-seconds c =
    let first = rw c.in-Some.is at (split_parts 58 c.args.word.now c.split_once.result c.split_once.ensures.cases (lit< tt)) in
    let free = rw c.in_err-minutes.was at (split_parts 58 c.in-Some.rest.now c.split_once-2.result c.split_once-2.ensures.cases (lit< tt)) in
    c.from_residual.ensures ∙ seconds_of-two c.args.word.now c.in-Some.hours.now c.in-Some.rest.now first.0 first.1 free

pub returns-clause-seconds : goal.returns-clause-seconds
returns-clause-seconds c =
    let first = rw c.in-Some.is at (split_parts 58 c.args.word.now c.split_once.result c.split_once.ensures.cases (lit< tt)) in
    let next = rw c.in_ok-minutes.was at (split_parts 58 c.in-Some.rest.now c.split_once-2.result c.split_once-2.ensures.cases (lit< tt)) in
    c.read_clock.ensures.seconds
    ∙ seconds_of-three c.args.word.now c.in-Some.hours.now c.in-Some.rest.now c.in_ok-minutes.minutes.now c.in_ok-minutes.seconds.now first.0 first.1 next.0 next.1
