use Rattle.std.proofs.Common.{inr, rules, Some, ap, ◌∙◌, ◌≡◌}
use Rattle.std.specs.IoError.{error_kind}
use Rattle.program9.specs.declared.ending.Message.TheVariants as message
use Rattle.program9.specs.Opening.{why_of}
use Rattle.program9.proofs.sheet.not_read.Goals as goal

pub returns-in_default-kind : goal.returns-in_default-kind
returns-in_default-kind c =
    let why : c.why_of.result ≡ why_of (error_kind c.args.e.now) = search rules in
    inr (
      c.in-Ok.file,
      c.in-Ok.ensures.ok,
      c.new-in_default-kind.ensures ∙ ap (λ w. record { status = 4; message = message.CannotOpenSheet (record { file = Some c.in-Ok.file; why = w }) }) why,
    )
