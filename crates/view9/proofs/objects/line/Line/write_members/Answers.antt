use Rattle.view9.proofs.JsonLines.{a_member, no_more_members, then_members}
use Rattle.view9.proofs.objects.line.Line.write_members.Goals as goal

pub loop-member-init : goal.loop-member-init
loop-member-init c = no_more_members 2 c.args.out.now

pub loop-member-preserved : goal.loop-member-preserved
loop-member-preserved c =
    then_members 2 c.args.out.now c.loop-member.out c.write.new.out c.loop-member.invariant
    (a_member 2 c.loop-member.out c.key.new.self c.write.new.out _ (c.in_ok-key.ensures.ok, c.in_ok-key.ensures.room.0) c.in_ok-write.ensures)
