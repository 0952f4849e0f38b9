use Rattle.std.proofs.Common.{take}
use Rattle.controller.proofs.TextLaws.{TextPut, spaced}
use Rattle.controller.proofs.printed.put_line.Given as goal

abbrev pub invariant-loop-x : goal.invariant-loop-x
invariant-loop-x l = TextPut l.fn.out l.p (spaced (take l.x-index l.fn.row)) l.at l.out
