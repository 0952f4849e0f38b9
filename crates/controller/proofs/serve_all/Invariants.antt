use Rattle.std.proofs.Common.{◌≡◌, true, ◌+◌, ◌*◌, ◌≤◌}
use Rattle.engine.specs.configs.Valid.{config_valid}
use Rattle.controller.proofs.serve_all.Given as goal

abbrev pub invariant-loop : goal.invariant-loop
invariant-loop l =
    (config_valid l.m l.at.config ≡ true)
    × (l.at.held ≤ 7)
    × (l.at.next ≤ 1 + 1024 * l.counter)
