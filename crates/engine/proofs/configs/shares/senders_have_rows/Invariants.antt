use Rattle.std.proofs.Common.{◌≡◌, not, true, ◌||◌}
use lib.Dec.{eqb}
use Rattle.std.specs.List.{list_any}
use Rattle.sets.specs.Below.{all_below}
use Rattle.engine.specs.configs.Shares.{can_send}
use Rattle.engine.proofs.configs.shares.senders_have_rows.Given as goal

abbrev pub invariant-loop-s : goal.invariant-loop-s
invariant-loop-s l = all_below (λ k. not (can_send l.m l.owner k) || list_any (λ w. eqb w.sender k) l.rows) l.s ≡ true
