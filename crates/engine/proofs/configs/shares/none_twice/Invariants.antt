use Rattle.std.proofs.Common.{◌≡◌, not, true, take, get_or}
use lib.Dec.{eqb}
use Rattle.std.specs.List.{list_any}
use Rattle.sets.specs.Below.{all_below}
use Rattle.model.specs.Records.{blank_row}
use Rattle.engine.proofs.configs.shares.none_twice.Given as goal

abbrev pub invariant-loop-k : goal.invariant-loop-k
invariant-loop-k l =
    all_below (λ k. not (list_any (λ w. eqb w.sender (get_or l.rows k blank_row).sender) (take k l.rows))) l.k ≡ true
