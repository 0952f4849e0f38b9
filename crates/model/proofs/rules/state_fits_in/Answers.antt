use Rattle.std.proofs.Common.{arith}
use Rattle.std.proofs.lemmas.Grind.{common_steps}
use Rattle.model.proofs.RuleLaws.{asks_2}
use Rattle.model.proofs.rules.state_fits_in.Goals as goal

pub returns-then-waits_right-2 : goal.returns-then-waits_right-2
returns-then-waits_right-2 c =
    rw (← asks_2 c.args.n c.args.states c.args.st c.in-2.is, ← c.sends_right.ensures) (grind (arith, common_steps))

pub returns-else-waits_right-2 : goal.returns-else-waits_right-2
returns-else-waits_right-2 c =
    rw (← asks_2 c.args.n c.args.states c.args.st c.in-2.is) (grind (arith, common_steps))
