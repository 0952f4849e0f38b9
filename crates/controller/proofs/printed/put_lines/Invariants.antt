use Rattle.controller.proofs.PrintedLaws.{LinesPut}
use Rattle.controller.proofs.printed.put_lines.Given as goal

abbrev pub invariant-loop-i : goal.invariant-loop-i
invariant-loop-i l = LinesPut l.tape l.numbers l.first l.fn.out l.i l.p l.out
