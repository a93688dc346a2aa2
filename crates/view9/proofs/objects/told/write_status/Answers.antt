use Rattle.std.proofs.lemmas.Result.{on_ok_weaker}
use Rattle.view9.proofs.JsonLines.{no_more_members, then_members}
use Rattle.view9.proofs.objects.told.write_status.Goals as goal

pub returns-in_default : goal.returns-in_default
returns-in_default c = no_more_members 1 c.args.out.now

pub returns : goal.returns
returns c =
    let first = c.args.out.now in
    let to_shown = then_members 1 first c.write_word.new.out c.write_shown.new.out c.in_ok-write_word.ensures c.in_ok-write_shown.ensures in
    let to_in = then_members 1 first c.write_shown.new.out c.write_word-2.new.out to_shown c.in_ok-write_word-2.ensures in
    let to_out = then_members 1 first c.write_word-2.new.out c.write_word-3.new.out to_in c.in_ok-write_word-3.ensures in
    let to_ain = then_members 1 first c.write_word-3.new.out c.write_word-4.new.out to_out c.in_ok-write_word-4.ensures in
    on_ok_weaker c.write_word-5.result (λ last. then_members 1 first c.write_word-4.new.out c.write_word-5.new.out to_ain last) c.write_word-5.ensures
