use Rattle.sheet9.proofs.Words.{ap, append_assoc, encode_utf8, encode_utf8_all, rules, sym, ◌++◌, ◌∙◌}
use Rattle.std.proofs.Output.{has_written_append}
use Rattle.sheet9.proofs.quoted.write_byte.Goals as goal

pub loop-escaped-preserved : goal.loop-escaped-preserved
loop-escaped-preserved g c = (
  search rules,
  λ plain.
      let now = c.loop-escaped.invariant.1 plain in
      let ch = c.in-Some.escaped in (
        now.0 ++ encode_utf8 ch,
        has_written_append _ _ _ _ _ _ now.1 (search rules),
        append_assoc now.0 (encode_utf8 ch) _ ∙ ap (λ l. now.0 ++ encode_utf8_all l) (sym c.in-Some.ensures.steps.1.0) ∙ now.2,
      ),
)
