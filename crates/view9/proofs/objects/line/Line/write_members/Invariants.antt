-- what is written so far are members
use Rattle.view9.specs.Working.{AppendsMembers}
use Rattle.view9.proofs.objects.line.Line.write_members.Given as goal

abbrev pub invariant-loop-member : goal.invariant-loop-member
invariant-loop-member l = AppendsMembers 2 l.fn.out l.out
