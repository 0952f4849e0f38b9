use Rattle.std.proofs.Common.{◌≡◌, ◌*◌, ◌≤◌, cond, eqb}
use Rattle.sets.specs.Below.{sum_below}
use Rattle.blocks.specs.Blocks.{kind_of, used_of}
use Rattle.blocks.proofs.parts.count_of.Given as goal

abbrev pub invariant-loop-b : goal.invariant-loop-b
invariant-loop-b l = (l.found ≤ 255 * l.b) × (l.found ≡ sum_below (λ a. cond (eqb (kind_of l.file a) l.k) (used_of l.file a) 0) l.b)
