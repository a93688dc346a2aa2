use Rattle.std.proofs.Common.{ap, inl, inr, ◌∙◌}
use Rattle.std.proofs.KnownBytes.{Keeps-refl}
use Rattle.program9.specs.Header.{with_file}
use Rattle.program9.specs.Outcome.{told_after}
use Rattle.program9.specs.Want.{kept_by, with_want}
use Rattle.program9.proofs.BufferLemmas.{holds_nothing}
use Rattle.program9.proofs.program.carry_out.Goals as goal

pub returns-in-Ok : goal.returns-in-Ok
returns-in-Ok g c =
    let begun = c.in-Ok.begun in
    let begins = c.in-Ok.ensures.begins in
    let contents = g.W.Write.contents in
    let is_judged = rw (holds_nothing contents begun.out c.args.out begins.is_behind begins.is_empty, c.of-reader.ensures) at c.judge_and_flush-judged.ensures in
    let found = c.found_in.result in
    let is_kept = c.kept_by-kept.ensures ∙ ap (λ asked. kept_by asked.report begun.named.export.live) begins.asked
    ∙ ap (kept_by c.args.task.asked.report) c.in-Ok.ensures.live in
    inr record {
      reader = begun.reader;
      buffer = begun.out;
      job = begun.job;
      begins = begins;
      judged = c.judge_and_flush-judged.result;
      is_judged = rw c.taken_back.ensures.writer is_judged;
      found = found;
      failed = _;
      ends = c.taken_back.ensures.end ∙ ap (told_after _) (c.with_want.ensures
          ∙ ap (λ told. with_want c.kept_by-kept.result told) (c.with_file-told.ensures ∙ ap (λ file. with_file file found c.judge_and_flush-judged.result) c.in-Ok.ensures.file)
          ∙ ap (λ kept. with_want kept (with_file c.args.task.file found c.judge_and_flush-judged.result)) is_kept);
    }

pub returns-in-Err : goal.returns-in-Err
returns-in-Err g c = inl (c.in-Err.ensures.ends, rw c.in-Err.ensures.untouched (Keeps-refl _))
