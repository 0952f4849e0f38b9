use native.Mathlib.Omega.{arith}
use Rattle.controller.proofs.RunLaws.{fresh_right}
use Rattle.controller.proofs.serve_all.Goals as goal

pub loop-init : goal.loop-init
loop-init c = (rw c.fresh.ensures (fresh_right c.args.m c.requires), omega arith, omega arith)
